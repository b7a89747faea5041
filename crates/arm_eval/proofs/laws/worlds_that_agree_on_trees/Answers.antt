use Rattle.arm_value.specs.Json.{Json}
use Rattle.arm_env.specs.Look.{Look, Fact}
use Rattle.arm_eval.specs.Trees.{tree_value}
use Rattle.reading.proofs.Agreement.{agree}
use Rattle.arm_eval.proofs.laws.worlds_that_agree_on_trees.Goals as goal

pub returns : goal.returns
returns c = λ here j w v same. agree Look Fact Json w v (tree_value j here) same
