use Rattle.arm_expr.proofs.Reading.{spelled_means, read_as}
use Rattle.arm_expr.proofs.laws.spelled_texts_are_expressions.Goals as goal

pub returns-clause-means : goal.returns-clause-means
returns-clause-means c t e s = spelled_means t e s

pub returns-clause-read : goal.returns-clause-read
returns-clause-read c t e r s l d h = read_as t r e 24576 64 h s l d
