use Rattle.deploy_cells.proofs.SameLemmas.{cell_is, cell_same_as}
use Rattle.deploy_cells.proofs.laws.cells_are_told_apart.Goals as goal

pub returns : goal.returns
returns c = λ a b. (cell_is a b, cell_same_as a b)
