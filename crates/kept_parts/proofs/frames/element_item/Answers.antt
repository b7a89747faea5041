use Rattle.std.proofs.Common.{ap, sym, ◌∙◌}
use Rattle.arm_expr.specs.Tree.{index}
use Rattle.kept_expressions.specs.Limits.{is_within}
use Rattle.kept_parts.proofs.frames.element_item.Goals as goal

pub returns-then-not-is_within : goal.returns-then-not-is_within
returns-then-not-is_within c = λ a i same h k.
    c.beyond_holes.ensures (index a i) (c.in_ok-holed.ensures a i same h.extent k.grows)
    (sym (ap is_within c.least_extent.ensures) ∙ sym c.is_within.ensures ∙ c.if-not-is_within.true)

pub returns : goal.returns
returns c = λ a i same h k.
    c.keep_holes.ensures (index a i) (c.in_ok-holed.ensures a i same h.extent k.grows)
    (sym (ap is_within c.least_extent.ensures) ∙ sym c.is_within.ensures ∙ c.if-not-is_within.false)
    (c.plain_part-part.ensures a i (c.copied.ensures a h) (c.copied-2.ensures i k))
