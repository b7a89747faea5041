use Rattle.std.proofs.Common.{ap₂, subst, ◌∙◌}
use Rattle.arm_expr.specs.Tree.{member}
use Rattle.arm_expr.proofs.ViewLemmas.{tree_of-Member}
use Rattle.emitted_parts.specs.Built.{IsText}
use Rattle.emitted_parts.proofs.accesses.named_member.Goals as goal

pub returns-in-Ok : goal.returns-in-Ok
returns-in-Ok c = λ a n h k.
    tree_of-Member c.args.value c.in-Ok.name ∙ ap₂ member h (subst (IsText n) c.in-Ok.is k)
