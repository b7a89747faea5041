use Rattle.expression_values.proofs.Equations.{value_of_output}
use Rattle.expression_values.proofs.laws.values_of_outputs.Goals as goal

pub returns : goal.returns
returns c = λ here e k x h. value_of_output here e k x h
