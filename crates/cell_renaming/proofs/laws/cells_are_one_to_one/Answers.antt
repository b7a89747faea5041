use Rattle.cell_renaming.proofs.CellLemmas.{to-from_cell, from-to_cell}
use Rattle.cell_renaming.proofs.laws.cells_are_one_to_one.Goals as goal

pub returns : goal.returns
returns c = λ r i a b. ((λ h. to-from_cell r i a b h), λ h. from-to_cell r i b a h)
