use Rattle.std.proofs.Common.{ap₂, subst, ◌∙◌}
use Rattle.arm_expr.specs.Tree.{index}
use Rattle.arm_expr.proofs.ViewLemmas.{tree_of-Index}
use Rattle.emitted_parts.specs.Built.{IsBoxed}
use Rattle.emitted_parts.proofs.accesses.part_at_box.Goals as goal

pub returns-in-Ok : goal.returns-in-Ok
returns-in-Ok c = λ a i h k.
    tree_of-Index c.args.value c.in-Ok.index ∙ ap₂ index h (subst (IsBoxed i) c.in-Ok.is k)
