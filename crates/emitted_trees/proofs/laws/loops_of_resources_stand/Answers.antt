use Rattle.emitted_trees.proofs.TreeLemmas.{runs_stand}
use Rattle.emitted_trees.proofs.laws.loops_of_resources_stand.Goals as goal

pub returns : goal.returns
returns c = λ x here p ans sc a st n l ls m b. runs_stand x here p ans sc a st n l ls m b
