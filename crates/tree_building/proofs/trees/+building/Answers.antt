use Rattle.std.proofs.Common.{◌≡◌, ◌≤◌, ◌+◌, ◌∙◌, Some, map, option_map, drop, sym, ap, subst, arith}
use Rattle.std.proofs.lemmas.List.{drop_all}
use Rattle.foundation.proofs.Lists.{next_item}
use Rattle.bicep_resolved.specs.Source as s
use Rattle.bicep_resolved.specs.View.{PropertyTree, source_of, property_of, value_of, sources, properties}
use Rattle.bicep_resolved.proofs.ViewLemmas.{source_of-Object, source_of-Array, value_of-Plain, value_of-Each}
use Rattle.bicep_resolved.proofs.ViewLemmas.{property_of-is, loop_of-is}
use Rattle.emitted_expressions.specs.Sight.{frames_of}
use Rattle.emitted_trees.specs.EmittedTrees.{has_copy}
use Rattle.tree_building.specs.Each.{ValueIsSmall}
use Rattle.tree_building.specs.Depth.{value_depth}
use Rattle.tree_building.specs.Sight as spec
use Rattle.tree_building.proofs.LeftLemmas.{item_within, item_depth, items_end, value_within, member_depth}
use Rattle.tree_building.proofs.SizeLemmas.{object_size, array_size, plain_size, body_size, item_size, member_size}
use Rattle.tree_building.proofs.SizeLemmas.{value_of_member}
use Rattle.tree_building.proofs.NestLemmas.{built_nests, written_fits}
use Rattle.tree_building.proofs.WithinLemmas.{members_within, members_flat, items_within, items_flat, plain_within}
use Rattle.tree_building.proofs.WithinLemmas.{plain_flat, each_within, each_flat, parts_nest}
use Rattle.tree_building.proofs.trees.+building.Goals as goal

-- ---- items

pub all-with_item-requires : goal.all-with_item-requires
all-with_item-requires g t c =
    let w = g.K.Texts.sight c.args.texts.now in
    let items = c.args.items.now in
    let i = c.loop-item.item-index in
    let fs = frames_of c.args.turns.now in
    built_nests (spec.tree w (source_of c.item-item.result) fs) c.tree.result 119 c.tree.ensures
    (item_depth (spec.items w (sources (map source_of (drop i items))) fs)
    (spec.tree w (source_of c.item-item.result) fs) (spec.items w (sources (map source_of (drop (i + 1) items))) fs)
    (ap (λ xs. spec.items w (sources (map source_of xs)) fs)
    (next_item items i c.item-item.result c.loop-item-test.true c.item-item.is)) c.loop-item.invariant.1.1)

pub all-returns : goal.all-returns
all-returns g t c =
    let w = g.K.Texts.sight c.args.texts.now in
    let items = c.args.items.now in
    let i = c.loop-item.item-index in
    let fs = frames_of c.args.turns.now in
    items_end (spec.items w (sources (map source_of (drop i items))) fs)
    (spec.items w (sources (map source_of items)) fs) c.loop-item.all
    (ap (λ xs. spec.items w (sources (map source_of xs)) fs) (drop_all i items c.loop-item-test.false))
    c.loop-item.invariant.0

-- ---- the parts of a value

pub tree-members-requires : goal.tree-members-requires
tree-members-requires g t c κs within =
    let w = g.K.Texts.sight c.args.texts.now in
    let fs = frames_of c.args.turns.now in
    let is = ap source_of c.in-Object.is ∙ source_of-Object c.in-Object.field-0 c.in-Object.properties
    ∙ ap (λ ps. s.object c.in-Object.field-0 (properties (map property_of ps)))
    (sym c.as_slice-else-has_copy.ensures.value) in
    let ps = properties (map property_of c.as_slice-else-has_copy.result.now) in
    let plain : has_copy ps ≡ _ =
    ap (λ ps. has_copy (properties (map property_of ps)))
    (c.as_slice-else-has_copy.ensures.value ∙ sym c.as_slice.ensures.value) ∙ sym c.if-has_copy.ensures in (
      omega (arith, object_size (source_of c.args.e.now) c.in-Object.field-0 ps is, c.decreases),
      (
        within,
        (
          members_within w fs (source_of c.args.e.now) c.in-Object.field-0 ps is plain c.requires.within,
          members_flat w fs (source_of c.args.e.now) c.in-Object.field-0 ps is plain c.requires.nests,
        ),
      ),
    )

pub tree-object_of-requires : goal.tree-object_of-requires
tree-object_of-requires g t c =
    let w = g.K.Texts.sight c.args.texts.now in
    let fs = frames_of c.args.turns.now in
    let is = ap source_of c.in-Object.is ∙ source_of-Object c.in-Object.field-0 c.in-Object.properties
    ∙ ap (λ ps. s.object c.in-Object.field-0 (properties (map property_of ps)))
    (sym c.as_slice-else-has_copy.ensures.value) in
    let ps = properties (map property_of c.as_slice-else-has_copy.result.now) in
    let plain : has_copy ps ≡ _ =
    ap (λ ps. has_copy (properties (map property_of ps)))
    (c.as_slice-else-has_copy.ensures.value ∙ sym c.as_slice.ensures.value) ∙ sym c.if-has_copy.ensures in
    parts_nest (spec.members w ps fs) c.members.result c.members.ensures
    (members_flat w fs (source_of c.args.e.now) c.in-Object.field-0 ps is plain c.requires.nests)

pub tree-all-requires : goal.tree-all-requires
tree-all-requires g t c κs within =
    let w = g.K.Texts.sight c.args.texts.now in
    let fs = frames_of c.args.turns.now in
    let es = sources (map source_of c.as_slice-in-Array.result.now) in
    let is = ap source_of c.in-Array.is ∙ source_of-Array c.in-Array.field-0 c.in-Array.items
    ∙ ap (λ es. s.array c.in-Array.field-0 (sources (map source_of es))) (sym c.as_slice-in-Array.ensures.value) in (
      omega (arith, array_size (source_of c.args.e.now) c.in-Array.field-0 es is, c.decreases),
      (
        within,
        (
          items_within w fs (source_of c.args.e.now) c.in-Array.field-0 es is c.requires.within,
          items_flat w fs (source_of c.args.e.now) c.in-Array.field-0 es is c.requires.nests,
        ),
      ),
    )

-- ---- members

pub with_member-written-made-requires : goal.with_member-written-made-requires
with_member-written-made-requires g t c κs within =
    let w = g.K.Texts.sight c.args.texts.now in
    let fs = frames_of c.args.turns.now in (
      omega (arith, value_of_member c.args.property.now, c.decreases),
      (
        within,
        (
          subst (λ (q : PropertyTree). ValueIsSmall (spec.value w (Some q.1) q.2 fs))
              (property_of-is c.args.property.now) c.requires.within,
          subst (λ (q : PropertyTree). value_depth (spec.value w (Some q.1) q.2 fs) ≤ 119)
              (property_of-is c.args.property.now) c.requires.nests,
        ),
      ),
    )

pub with_member-with_written-requires : goal.with_member-with_written-requires
with_member-with_written-requires g t c =
    let w = g.K.Texts.sight c.args.texts.now in
    let fs = frames_of c.args.turns.now in
    let p = c.args.property.now in
    written_fits (spec.value w (Some p.name) (value_of p.value) fs) c.written-made.result c.written-made.ensures
    (subst (λ (q : PropertyTree). value_depth (spec.value w (Some q.1) q.2 fs) ≤ 119) (property_of-is p)
    c.requires.nests)

pub written-tree-requires : goal.written-tree-requires
written-tree-requires g t c κs within =
    let w = g.K.Texts.sight c.args.texts.now in
    let fs = frames_of c.args.turns.now in
    let name = option_map (λ t. t.now) c.args.name in
    let v = value_of c.args.value.now in
    let is = ap value_of c.in-Plain.is ∙ value_of-Plain c.in-Plain.e in (
      omega (arith, plain_size v (source_of c.in-Plain.e) is, c.decreases),
      (
        within,
        (
          plain_within w fs name v (source_of c.in-Plain.e) is c.requires.within,
          plain_flat w fs name v (source_of c.in-Plain.e) is c.requires.nests,
        ),
      ),
    )

pub written-tree-input-requires : goal.written-tree-input-requires
written-tree-input-requires g t c κs within =
    let w = g.K.Texts.sight c.args.texts.now in
    let fs = frames_of c.args.turns.now in
    let name = option_map (λ t. t.now) c.args.name in
    let v = value_of c.args.value.now in
    let xs = source_of c.in-Each.each.over in
    let is = ap value_of c.in-Each.is ∙ value_of-Each c.in-Each.each c.in-Each.body
    ∙ ap (λ o. s.each o (source_of c.in-Each.body)) (loop_of-is c.in-Each.each) in
    let frames = ap frames_of c.as_slice.ensures.value ∙ c.in-Ok.ensures in (
      omega (arith, body_size v c.in-Each.each.at xs (source_of c.in-Each.body) is, c.decreases),
      (
        within,
        (
          each_within w fs name v c.in-Each.each.at xs (source_of c.in-Each.body) (frames_of c.as_slice.result.now) is
              frames c.requires.within,
          each_flat w fs name v c.in-Each.each.at xs (source_of c.in-Each.body) (frames_of c.as_slice.result.now) is
              frames c.requires.nests,
        ),
      ),
    )

-- ---- the calls in loops

pub all-tree-requires : goal.all-tree-requires
all-tree-requires g t c κs within =
    let w = g.K.Texts.sight c.args.texts.now in
    let items = c.args.items.now in
    let i = c.loop-item.item-index in
    let fs = frames_of c.args.turns.now in
    let next = next_item items i c.item-item.result c.loop-item-test.true c.item-item.is in
    let left = spec.items w (sources (map source_of (drop i items))) fs in
    let rest = spec.items w (sources (map source_of (drop (i + 1) items))) fs in
    let e = spec.tree w (source_of c.item-item.result) fs in
    let is = ap (λ xs. spec.items w (sources (map source_of xs)) fs) next in (
      omega (arith, item_size items i c.item-item.result (drop (i + 1) items) next, c.decreases),
      (
        within,
        (
          item_within left e rest is c.loop-item.invariant.1.0,
          item_depth left e rest is c.loop-item.invariant.1.1,
        ),
      ),
    )

pub members-with_member-requires : goal.members-with_member-requires
members-with_member-requires g t c κs within =
    let w = g.K.Texts.sight c.args.texts.now in
    let items = c.args.items.now in
    let i = c.loop-item.item-index in
    let fs = frames_of c.args.turns.now in
    let next = next_item items i c.item-item.result c.loop-item-test.true c.item-item.is in
    let left = spec.members w (properties (map property_of (drop i items))) fs in
    let rest = spec.members w (properties (map property_of (drop (i + 1) items))) fs in
    let p = property_of c.item-item.result in
    let v = spec.value w (Some p.1) p.2 fs in
    let is = ap (λ xs. spec.members w (properties (map property_of xs)) fs) next in (
      omega (arith, member_size items i c.item-item.result (drop (i + 1) items) next, c.decreases),
      (
        within,
        (
          value_within left p.1 v rest is c.loop-item.invariant.1.0,
          member_depth left p.1 v rest is c.loop-item.invariant.1.1,
        ),
      ),
    )
