use Rattle.std.proofs.Common.{pos, refl}
use Rattle.arm_expr.specs.Tree.{int}
use Rattle.arm_expr.proofs.ViewLemmas.{tree_of-Int}
use Rattle.emitted_parts.proofs.operators.prefixed.Goals as goal

pub returns-in-Negate : goal.returns-in-Negate
returns-in-Negate c = λ a i. rw c.in-Negate.is (c.call_two.ensures refl (int (pos 0)) a (tree_of-Int _) i)
