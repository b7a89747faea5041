use Rattle.literal_trees.proofs.KnownLemmas.{known}
use Rattle.literal_trees.proofs.laws.literal_trees_are_known.Goals as goal

pub returns : goal.returns
returns c = λ here j k e o n. known here j k e o n
