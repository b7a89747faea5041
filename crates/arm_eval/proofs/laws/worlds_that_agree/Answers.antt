use Rattle.arm_value.specs.Json.{Json}
use Rattle.arm_env.specs.Look.{Look, Fact}
use Rattle.expression_values.specs.Meaning.{value}
use Rattle.reading.proofs.Agreement.{agree}
use Rattle.arm_eval.proofs.laws.worlds_that_agree.Goals as goal

pub returns : goal.returns
returns c = λ here e w v same. agree Look Fact Json w v (value here e) same
