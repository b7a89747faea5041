use Rattle.std.proofs.Common.{[], sym, subst, ◌∙◌}
use Rattle.bicep_resolved.specs.View.{source_of}
use Rattle.emitted_expressions.specs.Values as spec
use Rattle.emitted_sizes.specs.Extent.{IsOf}
use Rattle.kept_expressions.proofs.making.made.Goals as goal

pub returns-then-not-is_within : goal.returns-then-not-is_within
returns-then-not-is_within g c =
    c.beyond.ensures (spec.expression (g.K.Declarations.sight c.args.around.now) (source_of c.args.e.now) [])
    (subst (λ s. IsOf (spec.expression s (source_of c.args.e.now) []) c.in_ok-extent.extent) c.requires
    (c.in_ok-extent.ensures [] tt))
    (sym c.is_within.ensures ∙ c.if-not-is_within.true)

pub returns : goal.returns
returns g c =
    c.keep.ensures (spec.expression (g.K.Declarations.sight c.args.around.now) (source_of c.args.e.now) [])
    (subst (λ s. IsOf (spec.expression s (source_of c.args.e.now) []) c.in_ok-extent.extent) c.requires
    (c.in_ok-extent.ensures [] tt))
    (sym c.is_within.ensures ∙ c.if-not-is_within.false) c.emitted.ensures
