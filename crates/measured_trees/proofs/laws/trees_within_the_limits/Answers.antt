use Rattle.measured_trees.proofs.WithinLemmas.{tree_printed, tree_printable, tree_is_small}
use Rattle.measured_trees.proofs.laws.trees_within_the_limits.Goals as goal

pub returns : goal.returns
returns c = λ e. ((λ h. (tree_printable e h, tree_is_small e h)), λ h. tree_printed e h.0 h.1)
