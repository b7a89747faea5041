use Rattle.emitted_trees.specs.Sound.{allowed}
use Rattle.emitted_trees.proofs.TreeLemmas.{law}
use Rattle.emitted_trees.proofs.laws.trees_mean_the_same.Goals as goal

pub returns : goal.returns
returns c = λ x here p ans sc a st e ls fs gs i h w. law x here p ans sc a st allowed e ls fs gs i h w
