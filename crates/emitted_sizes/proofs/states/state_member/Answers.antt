use Rattle.std.proofs.Common.{codes, refl}
use Rattle.arm_expr.specs.Tree.{text, call}
use Rattle.emitted_parts.specs.Emitted.{three}
use Rattle.emitted_sizes.proofs.states.state_member.Goals as goal

pub returns : goal.returns
returns c =
    λ a v name n i k. c.plain_member.ensures
    (call (codes "reference") (three a (text v) (text (codes "Full")))) name n
    (c.call_three.ensures (codes "reference") a (text v) (text (codes "Full")) refl i k (c.word.ensures refl))
