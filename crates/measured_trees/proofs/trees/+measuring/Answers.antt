use Rattle.std.proofs.Common.{◌≡◌, ◌+◌, ◌∷◌, ap, sym, subst, ◌∙◌, map, option_map, drop, Some, false}
use Rattle.std.specs.Prelude.{if◌then◌else◌}
use Rattle.std.proofs.lemmas.List.{drop_all}
use Rattle.foundation.proofs.Lists.{next_item}
use Rattle.bicep_tree.specs.declared.leaf.Literal.TheVariants as l
use Rattle.bicep_resolved.specs.Source as s
use Rattle.bicep_resolved.specs.View.{source_of, property_of, value_of, sources, properties}
use Rattle.bicep_resolved.proofs.ViewLemmas.{source_of-Literal, source_of-Object, source_of-Array, source_of-Prefix}
use Rattle.bicep_resolved.proofs.ViewLemmas.{value_of-Each, loop_of-is}
use Rattle.tree_building.specs.Emitted.{element}
use Rattle.tree_building.specs.EmittedTrees.{has_copy, signed, literal_or, copy_index, count_of}
use Rattle.tree_building.specs.Templates as tree
use Rattle.measured_expressions.specs.Spans.{AreSpans}
use Rattle.tree_building.specs.Sight as spec
use Rattle.measured_trees.specs.Extremes.{tree_extremes, value_extremes, items_extremes, members_extremes}
use Rattle.measured_trees.specs.Measures.{IsOf, Begins}
use Rattle.measured_trees.proofs.trees.+measuring.Goals as goal

-- ---- the calls in loops

pub all-loop-item-preserved : goal.all-loop-item-preserved
all-loop-item-preserved g t c = λ fs h.
    let w = g.K.Extents.sight c.args.around.now in
    let items = c.args.items.now in
    let i = c.loop-item.item-index in
    let whole = items_extremes (spec.items w (sources (map source_of items)) fs) in
    c.with-all.ensures.begins (tree_extremes (spec.tree w (source_of c.item-item.result) fs))
    (items_extremes (spec.items w (sources (map source_of (drop (i + 1) items))) fs)) whole
    (c.in_ok-measured_tree.ensures fs h)
    (subst (λ x. Begins c.loop-item.all x whole)
    (ap (λ xs. items_extremes (spec.items w (sources (map source_of xs)) fs))
    (next_item items i c.item-item.result c.loop-item-test.true c.item-item.is)) (c.loop-item.invariant fs h))

pub all-returns : goal.all-returns
all-returns g t c = λ fs h.
    let w = g.K.Extents.sight c.args.around.now in
    let items = c.args.items.now in
    let i = c.loop-item.item-index in
    let whole = items_extremes (spec.items w (sources (map source_of items)) fs) in
    c.ended.ensures whole
    (subst (λ x. Begins c.loop-item.all x whole)
    (ap (λ xs. items_extremes (spec.items w (sources (map source_of xs)) fs))
    (drop_all i items c.loop-item-test.false)) (c.loop-item.invariant fs h))

pub members-loop-item-preserved : goal.members-loop-item-preserved
members-loop-item-preserved g t c = λ fs h.
    let w = g.K.Extents.sight c.args.around.now in
    let items = c.args.items.now in
    let i = c.loop-item.item-index in
    let p = property_of c.item-item.result in
    let whole = members_extremes (spec.members w (properties (map property_of items)) fs) in
    c.with-all.ensures.begins (value_extremes (spec.value w (Some p.1) p.2 fs))
    (members_extremes (spec.members w (properties (map property_of (drop (i + 1) items))) fs)) whole
    (c.in_ok-member.ensures fs h)
    (subst (λ x. Begins c.loop-item.all x whole)
    (ap (λ xs. members_extremes (spec.members w (properties (map property_of xs)) fs))
    (next_item items i c.item-item.result c.loop-item-test.true c.item-item.is)) (c.loop-item.invariant fs h))

pub members-returns : goal.members-returns
members-returns g t c = λ fs h.
    let w = g.K.Extents.sight c.args.around.now in
    let items = c.args.items.now in
    let i = c.loop-item.item-index in
    let whole = members_extremes (spec.members w (properties (map property_of items)) fs) in
    c.ended.ensures whole
    (subst (λ x. Begins c.loop-item.all x whole)
    (ap (λ xs. members_extremes (spec.members w (properties (map property_of xs)) fs))
    (drop_all i items c.loop-item-test.false)) (c.loop-item.invariant fs h))

-- ---- the parts of a value

pub measured_tree-returns-in-Literal : goal.measured_tree-returns-in-Literal
measured_tree-returns-in-Literal g t c = λ fs h.
    let w = g.K.Extents.sight c.args.around.now in
    let v = c.in-Literal.field-1 in
    subst (λ x. IsOf (tree_extremes (spec.tree w x fs)) c.of_literal.result)
    (sym (ap source_of c.in-Literal.is ∙ source_of-Literal c.in-Literal.field-0 v)) (c.of_literal.ensures v)

pub measured_tree-returns-in_ok-members-in-Object : goal.measured_tree-returns-in_ok-members-in-Object
measured_tree-returns-in_ok-members-in-Object g t c = λ fs h.
    let w = g.K.Extents.sight c.args.around.now in
    let at = c.in-Object.field-0 in
    let ps = properties (map property_of c.in-Object.properties.items) in
    let plain : has_copy ps ≡ false =
    ap (λ xs. has_copy (properties (map property_of xs))) (sym c.as_slice.ensures.value) ∙ sym c.if-has_copy.ensures in
    let m = subst
    (λ xs. IsOf (members_extremes (spec.members w (properties (map property_of xs)) fs))
    c.in_ok-members-in-Object.field-0) c.as_slice-else-has_copy.ensures.value
    (c.in_ok-members-in-Object.ensures fs h) in
    subst (λ x. IsOf (tree_extremes (spec.tree w x fs)) c.enclosed.result)
    (sym (ap source_of c.in-Object.is ∙ source_of-Object at c.in-Object.properties))
    (subst
    (λ b. IsOf (tree_extremes
    (if b then tree.expression (spec.expression w (s.object at ps) fs) else tree.object (spec.members w ps fs)))
    c.enclosed.result) (sym plain) (c.enclosed.ensures (members_extremes (spec.members w ps fs)) m))

pub measured_tree-returns-in_ok-all-in-Array : goal.measured_tree-returns-in_ok-all-in-Array
measured_tree-returns-in_ok-all-in-Array g t c = λ fs h.
    let w = g.K.Extents.sight c.args.around.now in
    let es = c.in-Array.items in
    let m = subst
    (λ xs. IsOf (items_extremes (spec.items w (sources (map source_of xs)) fs)) c.in_ok-all-in-Array.field-0)
    c.as_slice-in-Array.ensures.value (c.in_ok-all-in-Array.ensures fs h) in
    subst (λ x. IsOf (tree_extremes (spec.tree w x fs)) c.enclosed-in-Array.result)
    (sym (ap source_of c.in-Array.is ∙ source_of-Array c.in-Array.field-0 es))
    (c.enclosed-in-Array.ensures (items_extremes (spec.items w (sources (map source_of es.items)) fs)) m)

pub measured_tree-returns-in-Some : goal.measured_tree-returns-in-Some
measured_tree-returns-in-Some g t c = λ fs h.
    let w = g.K.Extents.sight c.args.around.now in
    let p = c.in-Prefix.prefix in
    let e = source_of c.in-Prefix.inner.value in
    let number : Some (l.Number c.in-Some.field-0) ≡ signed p e =
    c.in-Some.ensures ∙ ap (λ y. signed p (source_of y)) c.deref.ensures in
    subst (λ x. IsOf (tree_extremes (spec.tree w x fs)) c.of_literal-in-Some.result)
    (sym (ap source_of c.in-Prefix.is ∙ source_of-Prefix c.in-Prefix.field-0 p c.in-Prefix.inner))
    (subst
    (λ o. IsOf (tree_extremes (literal_or o (spec.expression w (s.prefixed c.in-Prefix.field-0 p e) fs)))
    c.of_literal-in-Some.result) number (c.of_literal-in-Some.ensures (l.Number c.in-Some.field-0)))

pub measured_written-returns-in_ok-input-in-Each : goal.measured_written-returns-in_ok-input-in-Each
measured_written-returns-in_ok-input-in-Each g t c = λ fs h.
    let w = g.K.Extents.sight c.args.around.now in
    let name = option_map (λ t. t.now) c.args.name in
    let xs = spec.expression w (source_of c.in-Each.each.over) fs in
    let body = source_of c.in-Each.body in
    let over = c.in_ok-over-in-Each.ensures fs h in
    let f = element xs (copy_index name) in
    let is = ap value_of c.in-Each.is ∙ value_of-Each c.in-Each.each c.in-Each.body
    ∙ ap (λ o. s.each o body) (loop_of-is c.in-Each.each) in
    let runs = subst (AreSpans (f ∷ fs)) (sym c.as_slice.ensures.value) (c.in_ok-inside-in-Each.ensures xs fs over h) in
    subst (λ v. IsOf (value_extremes (spec.value w name v fs)) c.looped.result) (sym is)
    (c.looped.ensures (count_of xs) (spec.tree w body (f ∷ fs)) (c.count_of.ensures xs over)
    (c.in_ok-input-in-Each.ensures (f ∷ fs) runs))
