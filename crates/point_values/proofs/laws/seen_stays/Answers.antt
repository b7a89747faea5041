use Rattle.point_values.proofs.SeenLemmas.{stays_seen}
use Rattle.point_values.proofs.laws.seen_stays.Goals as goal

pub returns : goal.returns
returns c = stays_seen
