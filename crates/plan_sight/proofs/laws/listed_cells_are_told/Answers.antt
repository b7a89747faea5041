use Rattle.plan_sight.proofs.ToldLemmas.{told_listed}
use Rattle.plan_sight.proofs.laws.listed_cells_are_told.Goals as goal

pub returns : goal.returns
returns c = told_listed
