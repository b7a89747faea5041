use Rattle.std.proofs.Common.{[], sym, subst, ◌∙◌}
use Rattle.bicep_resolved.specs.View.{value_of}
use Rattle.emitted_expressions.specs.Values as spec
use Rattle.emitted_sizes.specs.Extent.{IsOf}
use Rattle.kept_expressions.proofs.making.made_value.Goals as goal

pub returns-then-not-is_within : goal.returns-then-not-is_within
returns-then-not-is_within g c =
    c.beyond.ensures (spec.value (g.K.Declarations.sight c.args.around.now) (value_of c.args.value.now) [])
    (subst (λ s. IsOf (spec.value s (value_of c.args.value.now) []) c.in_ok-extent.extent) c.requires
    (c.in_ok-extent.ensures [] tt))
    (sym c.is_within.ensures ∙ c.if-not-is_within.true)

pub returns : goal.returns
returns g c =
    c.keep.ensures (spec.value (g.K.Declarations.sight c.args.around.now) (value_of c.args.value.now) [])
    (subst (λ s. IsOf (spec.value s (value_of c.args.value.now) []) c.in_ok-extent.extent) c.requires
    (c.in_ok-extent.ensures [] tt))
    (sym c.is_within.ensures ∙ c.if-not-is_within.false) c.emitted_value.ensures
