use Rattle.std.proofs.Common.{◌+◌, [], ◌∷◌, ap, sym, subst, ◌∙◌, map, drop}
use Rattle.std.proofs.lemmas.List.{drop_all}
use Rattle.foundation.proofs.Lists.{next_item}
use Rattle.bicep_resolved.specs.View.{property_of, properties}
use Rattle.measured_trees.specs.Extremes.{members_extremes}
use Rattle.measured_trees.specs.Measures.{Begins}
use Rattle.emitted_bodies.specs.Bodies.{body_members}
use Rattle.emitted_bodies.proofs.FieldLemmas.{fields_joined}
use Rattle.emitted_bodies.proofs.measured.measured_fields.Goals as goal

pub loop-field-preserved : goal.loop-field-preserved
loop-field-preserved g c = λ fs h.
    let w = g.K.Extents.sight c.args.around.now in
    let fields = c.args.fields.now in
    let i = c.loop-field.field-index in
    let p = property_of c.field-item.result in
    let whole = members_extremes (body_members w (properties (map property_of fields)) fs) in
    let rest = map property_of (drop (i + 1) fields) in
    c.with-all.ensures.begins (members_extremes (body_members w (properties (p ∷ [])) fs))
    (members_extremes (body_members w (properties rest) fs)) whole
    (c.in_ok-measured_field.ensures fs h)
    (subst (λ x. Begins c.loop-field.all x whole)
    (ap (λ xs. members_extremes (body_members w (properties (map property_of xs)) fs))
    (next_item fields i c.field-item.result c.loop-field-test.true c.field-item.is)
    ∙ sym (fields_joined w fs p rest)) (c.loop-field.invariant fs h))

pub returns : goal.returns
returns g c = λ fs h.
    let w = g.K.Extents.sight c.args.around.now in
    let fields = c.args.fields.now in
    let i = c.loop-field.field-index in
    let whole = members_extremes (body_members w (properties (map property_of fields)) fs) in
    c.ended.ensures whole
    (subst (λ x. Begins c.loop-field.all x whole)
    (ap (λ xs. members_extremes (body_members w (properties (map property_of xs)) fs))
    (drop_all i fields c.loop-field-test.false)) (c.loop-field.invariant fs h))
