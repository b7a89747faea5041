use Rattle.cell_renaming.proofs.ParentLemmas.{parents, admits_same}
use Rattle.cell_renaming.proofs.laws.parents_are_renamed.Goals as goal

pub returns : goal.returns
returns c = record {
  parents = λ r a b h. parents r a b h;
  admits = λ r a b v h. admits_same r a b v h;
}
