use Rattle.arm_eval.proofs.PlainLemmas.{itself, in_each_world}
use Rattle.arm_eval.proofs.laws.plain_trees_are_values.Goals as goal

pub returns-clause-itself : goal.returns-clause-itself
returns-clause-itself c = itself

pub returns-clause-in_a_world : goal.returns-clause-in_a_world
returns-clause-in_a_world c = in_each_world
