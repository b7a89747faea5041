use Rattle.std.proofs.Common.{ap, sym, ◌∙◌}
use Rattle.emission_laws.specs.Holes.{fill}
use Rattle.kept_expressions.specs.Limits.{is_within}
use Rattle.kept_parts.proofs.frames.placed.Goals as goal

pub returns-then-not-is_within : goal.returns-then-not-is_within
returns-then-not-is_within c = λ t g h k.
    c.beyond_holes.ensures (fill g t) (c.in_ok-holed.ensures t g h.grows k)
    (sym (ap is_within c.least_extent.ensures) ∙ sym c.is_within.ensures ∙ c.if-not-is_within.true)
