use Rattle.arm_eval.proofs.TextLemmas.{expression_read}
use Rattle.arm_eval.proofs.laws.expressions_are_spelled.Goals as goal

pub returns : goal.returns
returns c = λ t e. expression_read t e
