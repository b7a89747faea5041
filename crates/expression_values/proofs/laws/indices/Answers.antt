use Rattle.expression_values.proofs.Equations.{by_index}
use Rattle.expression_values.proofs.laws.indices.Goals as goal

pub returns : goal.returns
returns c = λ here e i. by_index here e i
