use Rattle.arm_value.specs.Json.{Json}
use Rattle.arm_env.specs.Look.{Look, Fact}
use Rattle.expression_values.specs.Meaning.{value}
use Rattle.reading.proofs.Growth.{told_still}
use Rattle.arm_eval.proofs.laws.values_stay.Goals as goal

pub returns : goal.returns
returns c = λ here e p q grows. told_still Look Fact Json p q grows (value here e)
