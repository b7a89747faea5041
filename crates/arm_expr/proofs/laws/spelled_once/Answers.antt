use Rattle.arm_expr.proofs.Reading as reading
use Rattle.arm_expr.proofs.laws.spelled_once.Goals as goal

pub returns : goal.returns
returns c = reading.spelled_once
