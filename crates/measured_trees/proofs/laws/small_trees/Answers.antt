use Rattle.measured_trees.proofs.WithinLemmas.{tree_small, tree_short, tree_flat}
use Rattle.measured_trees.proofs.laws.small_trees.Goals as goal

pub returns : goal.returns
returns c = λ e. ((λ h. (tree_short e h, tree_flat e h)), λ h. tree_small e h.0 h.1)
