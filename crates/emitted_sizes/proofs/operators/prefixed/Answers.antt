use Rattle.std.proofs.Common.{codes, pos, refl}
use Rattle.arm_expr.specs.Tree.{int}
use Rattle.emitted_sizes.proofs.operators.prefixed.Goals as goal

pub returns-in-Negate : goal.returns-in-Negate
returns-in-Negate c = λ a i.
    rw c.in-Negate.is (c.call_two.ensures (codes "sub") (int (pos 0)) a refl c.int.ensures i)
