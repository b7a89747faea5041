use Rattle.std.proofs.Common.{ap, sym, ◌∙◌}
use Rattle.kept_expressions.specs.Limits.{is_within}
use Rattle.kept_heads.specs.Joints.{joined}
use Rattle.kept_heads.proofs.joints.joined.Goals as goal

pub returns-then-not-is_within : goal.returns-then-not-is_within
returns-then-not-is_within c = λ a b h k.
    c.beyond_holes.ensures (joined c.args.joint a b) (c.in_ok-holed.ensures a b h.grows k.grows)
    (sym (ap is_within c.least_extent.ensures) ∙ sym c.is_within.ensures ∙ c.if-not-is_within.true)

pub returns : goal.returns
returns c = λ a b h k.
    c.keep_holes.ensures (joined c.args.joint a b) (c.in_ok-holed.ensures a b h.grows k.grows)
    (sym (ap is_within c.least_extent.ensures) ∙ sym c.is_within.ensures ∙ c.if-not-is_within.false)
    (c.joint_of.ensures a b (c.copied.ensures a h) (c.copied-2.ensures b k))
