use Rattle.std.proofs.Common.{codes, refl}
use Rattle.arm_expr.specs.Tree.{text}
use Rattle.emitted_sizes.proofs.states.properties.Goals as goal

pub returns : goal.returns
returns c =
    λ a v i k. c.call_two.ensures (codes "reference") a (text v) refl i k
