use Rattle.expression_values.proofs.Equations.{plain_call}
use Rattle.expression_values.proofs.laws.plain_calls.Goals as goal

pub returns : goal.returns
returns c = λ here name es e h. plain_call here name es e h
