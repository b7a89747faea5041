use Rattle.tree_names.proofs.TreeLemmas.{tree_named}
use Rattle.tree_names.proofs.laws.trees_have_names.Goals as goal

pub returns : goal.returns
returns c = tree_named
