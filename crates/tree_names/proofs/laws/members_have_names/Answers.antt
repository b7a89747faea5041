use Rattle.tree_names.proofs.TreeLemmas.{members_named}
use Rattle.tree_names.proofs.laws.members_have_names.Goals as goal

pub returns : goal.returns
returns c = members_named
