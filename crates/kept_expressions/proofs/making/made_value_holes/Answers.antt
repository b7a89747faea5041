use Rattle.std.proofs.Common.{◌≡◌, ◌∷◌, [], ap, sym, subst, ◌∙◌}
use Rattle.std.specs.Prelude.{IfOk}
use Rattle.bicep_resolved.specs.View.{value_of}
use Rattle.measured_holes.specs.Holes.{fill, holes}
use Rattle.emitted_expressions.specs.Sight.{frames_of}
use Rattle.emitted_expressions.specs.Values as spec
use Rattle.emitted_parts.specs.Built.{Is}
use Rattle.kept_expressions.specs.Kept.{IsKeptHoles}
use Rattle.kept_expressions.specs.Limits.{is_within}
use Rattle.kept_expressions.proofs.making.made_value_holes.Goals as goal

pub returns-then-not-is_within : goal.returns-then-not-is_within
returns-then-not-is_within g c = λ h.
    let s = g.K.Declarations.sight c.args.around.now in
    let x = value_of c.args.value.now in
    let t = spec.value s x (holes ∷ []) in
    c.beyond_holes.ensures t
    (c.in_ok-holed.ensures t (λ f. subst (λ r. spec.value r x (f ∷ []) ≡ fill f t) (sym c.requires) (h f)))
    (sym (ap is_within c.least_extent.ensures) ∙ sym c.is_within.ensures ∙ c.if-not-is_within.true)

pub returns-in-Ok : goal.returns-in-Ok
returns-in-Ok g c = λ h.
    let s = g.K.Declarations.sight c.args.around.now in
    let x = value_of c.args.value.now in
    let t = spec.value s x (holes ∷ []) in
    subst (λ r. IfOk r (IsKeptHoles t)) (sym c.letting_go.ensures)
    (c.keep_holes.ensures t
    (c.in_ok-holed.ensures t (λ f. subst (λ r. spec.value r x (f ∷ []) ≡ fill f t) (sym c.requires) (h f)))
    (sym (ap is_within c.least_extent.ensures) ∙ sym c.is_within.ensures ∙ c.if-not-is_within.false)
    (subst (λ fs. Is (spec.value s x fs) c.emitted_value-made.result)
    (ap frames_of c.as_slice.ensures.value ∙ c.in-Ok.ensures)
    c.emitted_value-made.ensures))
