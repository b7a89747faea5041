use Rattle.std.proofs.Common.{◌+◌, ◌≤◌, ap, sym, subst, ◌∙◌, map, drop}
use Rattle.std.proofs.lemmas.List.{drop_all}
use Rattle.foundation.proofs.Lists.{next_item}
use Rattle.bicep_resolved.specs.View.{property_of, properties}
use Rattle.emitted_expressions.specs.Sight.{frames_of}
use Rattle.tree_building.specs.Built.{members_of, all_grown}
use Rattle.tree_building.specs.Depth.{members_depth}
use Rattle.tree_building.specs.Each.{MembersAreSmall}
use Rattle.emitted_bodies.specs.Bodies.{body_members}
use Rattle.emitted_bodies.proofs.FieldLemmas.{fields_grown, first_within, others_within, first_flat, others_flat}
use Rattle.emitted_bodies.proofs.building.all_fields.Goals as goal

pub with_field-requires-clause-within : goal.with_field-requires-clause-within
with_field-requires-clause-within g c =
    let w = g.K.Texts.sight c.args.texts.now in
    let fs = frames_of c.args.turns.now in
    let fields = c.args.fields.now in
    let i = c.loop-field.field-index in
    first_within w fs (property_of c.field-item.result) (map property_of (drop (i + 1) fields))
    (subst (λ xs. MembersAreSmall (body_members w (properties (map property_of xs)) fs))
    (next_item fields i c.field-item.result c.loop-field-test.true c.field-item.is) c.loop-field.invariant.1.0)

pub with_field-requires-clause-nests : goal.with_field-requires-clause-nests
with_field-requires-clause-nests g c =
    let w = g.K.Texts.sight c.args.texts.now in
    let fs = frames_of c.args.turns.now in
    let fields = c.args.fields.now in
    let i = c.loop-field.field-index in
    first_flat w fs (property_of c.field-item.result) (map property_of (drop (i + 1) fields))
    (subst (λ xs. members_depth (body_members w (properties (map property_of xs)) fs) ≤ 119)
    (next_item fields i c.field-item.result c.loop-field-test.true c.field-item.is) c.loop-field.invariant.1.1)

pub loop-field-preserved : goal.loop-field-preserved
loop-field-preserved g c =
    let w = g.K.Texts.sight c.args.texts.now in
    let fs = frames_of c.args.turns.now in
    let fields = c.args.fields.now in
    let i = c.loop-field.field-index in
    let p = property_of c.field-item.result in
    let rest = map property_of (drop (i + 1) fields) in
    let next = next_item fields i c.field-item.result c.loop-field-test.true c.field-item.is in
    let left = c.loop-field.invariant in (
      ap (all_grown (body_members w (properties rest) fs)) c.in-Ok.ensures
          ∙ sym (fields_grown w fs p rest (members_of c.loop-field.parts))
          ∙ sym (ap (λ xs. all_grown (body_members w (properties (map property_of xs)) fs)
          (members_of c.loop-field.parts)) next)
          ∙ left.0,
      (
        others_within w fs p rest
            (subst (λ xs. MembersAreSmall (body_members w (properties (map property_of xs)) fs)) next left.1.0),
        others_flat w fs p rest
            (subst (λ xs. members_depth (body_members w (properties (map property_of xs)) fs) ≤ 119) next left.1.1),
      ),
    )

pub returns : goal.returns
returns g c =
    let w = g.K.Texts.sight c.args.texts.now in
    let fs = frames_of c.args.turns.now in
    let fields = c.args.fields.now in
    let i = c.loop-field.field-index in
    sym (ap (λ xs. all_grown (body_members w (properties (map property_of xs)) fs) (members_of c.loop-field.parts))
    (drop_all i fields c.loop-field-test.false))
    ∙ c.loop-field.invariant.0
