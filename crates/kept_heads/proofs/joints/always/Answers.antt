use Rattle.std.proofs.Common.{refl, ap, sym, ◌∙◌, codes}
use Rattle.kept_expressions.specs.Limits.{is_within}
use Rattle.kept_heads.specs.Joints.{always}
use Rattle.kept_heads.proofs.joints.always.Goals as goal

pub returns-then-not-is_within : goal.returns-then-not-is_within
returns-then-not-is_within c =
    c.beyond_holes.ensures always (c.in_ok-holed.ensures always (λ f. refl) (c.call_none.ensures (codes "true") refl))
    (sym (ap is_within c.least_extent.ensures) ∙ sym c.is_within.ensures ∙ c.if-not-is_within.true)

pub returns : goal.returns
returns c =
    c.keep_holes.ensures always (c.in_ok-holed.ensures always (λ f. refl) (c.call_none.ensures (codes "true") refl))
    (sym (ap is_within c.least_extent.ensures) ∙ sym c.is_within.ensures ∙ c.if-not-is_within.false)
    (c.call_none-2.ensures refl)
