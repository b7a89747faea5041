use Rattle.expression_values.proofs.Equations.{choice}
use Rattle.expression_values.proofs.laws.choices.Goals as goal

pub returns : goal.returns
returns c = λ here name c a b e. choice here name c a b e
