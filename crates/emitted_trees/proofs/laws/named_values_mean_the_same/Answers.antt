use Rattle.emitted_trees.proofs.TreeLemmas.{named_like}
use Rattle.emitted_trees.proofs.laws.named_values_mean_the_same.Goals as goal

pub returns : goal.returns
returns c = λ x here p ans sc a st k v ls fs gs i h w. named_like x here p ans sc a st k v ls fs gs i h w
