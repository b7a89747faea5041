use Rattle.plan_cells.proofs.PointLemmas.{true_at_point}
use Rattle.plan_cells.proofs.laws.points_are_so.Goals as goal

pub returns : goal.returns
returns c = true_at_point
