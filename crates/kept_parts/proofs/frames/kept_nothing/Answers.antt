use Rattle.std.proofs.Common.{refl, ap, sym, ◌∙◌}
use Rattle.emitted_parts.specs.Emitted.{no_value}
use Rattle.kept_expressions.specs.Limits.{is_within}
use Rattle.kept_parts.proofs.frames.kept_nothing.Goals as goal

pub returns-then-not-is_within : goal.returns-then-not-is_within
returns-then-not-is_within c =
    c.beyond_holes.ensures no_value (c.in_ok-holed.ensures no_value (λ f. refl) c.no_value.ensures)
    (sym (ap is_within c.least_extent.ensures) ∙ sym c.is_within.ensures ∙ c.if-not-is_within.true)

pub returns : goal.returns
returns c =
    c.keep_holes.ensures no_value (c.in_ok-holed.ensures no_value (λ f. refl) c.no_value.ensures)
    (sym (ap is_within c.least_extent.ensures) ∙ sym c.is_within.ensures ∙ c.if-not-is_within.false)
    c.no_value-2.ensures
