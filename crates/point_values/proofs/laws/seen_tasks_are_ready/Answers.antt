use Rattle.point_values.proofs.SeenLemmas.{is_ready}
use Rattle.point_values.proofs.laws.seen_tasks_are_ready.Goals as goal

pub returns : goal.returns
returns c = is_ready
