use Rattle.expression_values.proofs.Equations.{part_of_plain, plain_part}
use Rattle.expression_values.proofs.laws.parts_of_plain_values.Goals as goal

pub returns-clause-value : goal.returns-clause-value
returns-clause-value c = λ here e name h. part_of_plain here e name h

pub returns-clause-plain : goal.returns-clause-plain
returns-clause-plain c = λ here e name h. plain_part here e name h
