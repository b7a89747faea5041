use Rattle.arm_value.specs.Json.{Json}
use Rattle.arm_env.specs.Look.{Look, Fact}
use Rattle.arm_eval.specs.Trees.{tree_value}
use Rattle.reading.proofs.Growth.{told_still}
use Rattle.arm_eval.proofs.laws.values_of_trees_stay.Goals as goal

pub returns : goal.returns
returns c = λ here j p q grows. told_still Look Fact Json p q grows (tree_value j here)
