use Rattle.expression_values.proofs.Equations.{by_member}
use Rattle.expression_values.proofs.laws.members.Goals as goal

pub returns : goal.returns
returns c = λ here e name. by_member here e name
