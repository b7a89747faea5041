use Rattle.expression_values.proofs.Equations.{lazy_call}
use Rattle.expression_values.proofs.laws.lazy_calls.Goals as goal

pub returns : goal.returns
returns c = λ here name es f e. lazy_call here name es f e
