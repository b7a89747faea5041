use Rattle.deploy_cells.proofs.CellLemmas.{parent_above}
use Rattle.deploy_cells.proofs.laws.parents_are_above.Goals as goal

pub returns : goal.returns
returns c = parent_above
