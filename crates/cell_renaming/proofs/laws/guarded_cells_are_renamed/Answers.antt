use Rattle.cell_renaming.proofs.ParentLemmas.{guarded_same}
use Rattle.cell_renaming.proofs.laws.guarded_cells_are_renamed.Goals as goal

pub returns : goal.returns
returns c = λ r i w x y a b h e. guarded_same r i w x y a b h e
