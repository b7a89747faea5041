use Rattle.tree_names.proofs.TreeLemmas.{value_named}
use Rattle.tree_names.proofs.laws.values_have_names.Goals as goal

pub returns : goal.returns
returns c = value_named
