use Rattle.point_knowledge.proofs.BlankLemmas.{opening_seen}
use Rattle.point_knowledge.proofs.laws.opening_is_seen.Goals as goal

pub returns : goal.returns
returns c = opening_seen
