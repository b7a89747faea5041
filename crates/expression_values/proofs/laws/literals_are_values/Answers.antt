use Rattle.expression_values.proofs.Equations.{texts, numbers}
use Rattle.expression_values.proofs.laws.literals_are_values.Goals as goal

pub returns-clause-texts : goal.returns-clause-texts
returns-clause-texts c = λ here t. texts here t

pub returns-clause-numbers : goal.returns-clause-numbers
returns-clause-numbers c = λ here z. numbers here z
