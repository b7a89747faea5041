use Rattle.std.proofs.Common.{refl, ap, sym, ◌∙◌}
use Rattle.arm_expr.specs.Tree.{text}
use Rattle.kept_expressions.specs.Limits.{is_within}
use Rattle.kept_parts.proofs.numbered.kept_text.Goals as goal

pub returns-then-not-is_within : goal.returns-then-not-is_within
returns-then-not-is_within c =
    let t = text c.args.characters.now in
    c.beyond_holes.ensures t (c.in_ok-holed.ensures t (λ f. refl) c.text.ensures)
    (sym (ap is_within c.least_extent.ensures) ∙ sym c.is_within.ensures ∙ c.if-not-is_within.true)

pub returns : goal.returns
returns c =
    let t = text c.args.characters.now in
    c.keep_holes.ensures t (c.in_ok-holed.ensures t (λ f. refl) c.text.ensures)
    (sym (ap is_within c.least_extent.ensures) ∙ sym c.is_within.ensures ∙ c.if-not-is_within.false)
    c.text-2.ensures
