use Rattle.std.proofs.Common.{◌≡◌, subst}
use Rattle.arm_expr.specs.Tree.{index}
use Rattle.arm_expr.specs.View.{tree_of}
use Rattle.emitted_parts.specs.Emitted.{element}
use Rattle.emitted_parts.specs.Built.{Is}
use Rattle.emitted_expressions.proofs.FrameLemmas.{one_frame}
use Rattle.emitted_expressions.proofs.turns.element.Goals as goal

pub returns-in-Ok : goal.returns-in-Ok
returns-in-Ok c = λ a i h k.
    let there : tree_of c.in-Ok.index ≡ i = subst (Is i) c.in-Ok.is k in
    one_frame c.new.result (element a i) c.turn_of.result c.with.result c.new.ensures.items c.with.ensures
    (c.turn_of.ensures (index a i) i
    (c.plain_part-item.ensures a i h (subst (λ t. Is t c.copied.result) there c.copied.ensures)) there)
