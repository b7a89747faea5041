use Rattle.plan_cells.proofs.PointLemmas.{later_point}
use Rattle.plan_cells.proofs.laws.points_go_on.Goals as goal

pub returns : goal.returns
returns c = later_point
