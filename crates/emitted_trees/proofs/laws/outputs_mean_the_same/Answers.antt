use Rattle.emitted_trees.proofs.TreeLemmas.{output_like}
use Rattle.emitted_trees.proofs.laws.outputs_mean_the_same.Goals as goal

pub returns : goal.returns
returns c = λ x here p ans sc a st v ls i w. output_like x here p ans sc a st v ls i w
