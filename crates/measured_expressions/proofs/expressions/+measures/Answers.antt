use Rattle.std.proofs.Common.{◌+◌, codes, refl, ap, sym, subst, ◌∙◌, map, drop}
use Rattle.std.proofs.lemmas.List.{drop_all}
use Rattle.foundation.proofs.Lists.{next_item}
use Rattle.arm_expr.specs.Tree.{text, more}
use Rattle.bicep_resolved.proofs.ViewLemmas.{source_of-Interpolated, source_of-Object, source_of-Array, source_of-Call}
use Rattle.bicep_resolved.specs.View.{source_of, piece_of, property_of, sources, pieces, properties, row_name}
use Rattle.bicep_emission.specs.Emitted as e
use Rattle.bicep_emission.specs.Spelled.{spelled}
use Rattle.bicep_emission.specs.Texts.{format_text}
use Rattle.emitted_sizes.specs.Extent.{IsOf, AreOf, Begins}
use Rattle.emitted_expressions.specs.Values as spec
use Rattle.measured_expressions.proofs.expressions.+measures.Goals as goal

pub all-loop-item-preserved : goal.all-loop-item-preserved
all-loop-item-preserved g t c = λ fs h.
    let s = g.K.Sizes.sight c.args.around.now in
    let items = c.args.items.now in
    let i = c.loop-item.item-index in
    let whole = spec.all s (sources (map source_of items)) fs in
    c.with-row.ensures (spec.expression s (source_of c.item-item.result) fs)
    (spec.all s (sources (map source_of (drop (i + 1) items))) fs) whole (c.in_ok-measured.ensures fs h)
    (subst (λ ts. Begins c.loop-item.row ts whole)
    (ap (λ xs. spec.all s (sources (map source_of xs)) fs)
    (next_item items i c.item-item.result c.loop-item-test.true c.item-item.is)) (c.loop-item.invariant fs h))

pub holes-loop-item-init : goal.holes-loop-item-init
holes-loop-item-init g t c = λ fs h.
    let s = g.K.Sizes.sight c.args.around.now in
    let ps = pieces (map piece_of c.args.items.now) in
    let whole = spec.format s c.args.first.now ps fs in
    c.with-row.ensures (text (format_text 0 c.args.first.now ps)) (e.holes_of s.file s.files s.scope ps fs) whole
    c.in_ok-first_argument.ensures (c.new.ensures whole)

pub holes-loop-item-preserved : goal.holes-loop-item-preserved
holes-loop-item-preserved g t c = λ fs h.
    let s = g.K.Sizes.sight c.args.around.now in
    let items = c.args.items.now in
    let i = c.loop-item.item-index in
    let whole = spec.format s c.args.first.now (pieces (map piece_of items)) fs in
    c.with-row-in-loop-item.ensures (spec.expression s (piece_of c.item-item.result).0 fs)
    (e.holes_of s.file s.files s.scope (pieces (map piece_of (drop (i + 1) items))) fs) whole
    (c.in_ok-hole.ensures fs h)
    (subst (λ ts. Begins c.loop-item.row ts whole)
    (ap (λ xs. e.holes_of s.file s.files s.scope (pieces (map piece_of xs)) fs)
    (next_item items i c.item-item.result c.loop-item-test.true c.item-item.is)) (c.loop-item.invariant fs h))

pub holes-returns : goal.holes-returns
holes-returns g t c = λ fs h.
    let s = g.K.Sizes.sight c.args.around.now in
    let items = c.args.items.now in
    let i = c.loop-item.item-index in
    let whole = spec.format s c.args.first.now (pieces (map piece_of items)) fs in
    c.end.ensures whole
    (subst (λ ts. Begins c.loop-item.row ts whole)
    (ap (λ xs. e.holes_of s.file s.files s.scope (pieces (map piece_of xs)) fs)
    (drop_all i items c.loop-item-test.false)) (c.loop-item.invariant fs h))

pub measured-returns-in_ok-holes-in-Interpolated : goal.measured-returns-in_ok-holes-in-Interpolated
measured-returns-in_ok-holes-in-Interpolated g t c = λ fs h.
    let s = g.K.Sizes.sight c.args.around.now in
    let first = c.in-Interpolated.first in
    let ps = c.in-Interpolated.pieces in
    subst (λ x. IsOf (spec.expression s x fs) c.call.result)
    (sym (ap source_of c.in-Interpolated.is ∙ source_of-Interpolated c.in-Interpolated.field-0 first ps))
    (c.call.ensures (codes "format") (spec.format s first (pieces (map piece_of ps.items)) fs) refl
    (subst (λ xs. AreOf (spec.format s first (pieces (map piece_of xs)) fs) c.in_ok-holes-in-Interpolated.field-0)
    c.as_slice.ensures.value (c.in_ok-holes-in-Interpolated.ensures fs h)))

pub measured-returns-in_ok-members-in-Object : goal.measured-returns-in_ok-members-in-Object
measured-returns-in_ok-members-in-Object g t c = λ fs h.
    let s = g.K.Sizes.sight c.args.around.now in
    let ps = c.in-Object.properties in
    subst (λ x. IsOf (spec.expression s x fs) c.call-in-Object.result)
    (sym (ap source_of c.in-Object.is ∙ source_of-Object c.in-Object.field-0 ps))
    (c.call-in-Object.ensures (codes "createObject") (spec.members s (properties (map property_of ps.items)) fs) refl
    (subst (λ xs. AreOf (spec.members s (properties (map property_of xs)) fs) c.in_ok-members-in-Object.field-0)
    c.as_slice-in-Object.ensures.value (c.in_ok-members-in-Object.ensures fs h)))

pub measured-returns-in_ok-all-in-Array : goal.measured-returns-in_ok-all-in-Array
measured-returns-in_ok-all-in-Array g t c = λ fs h.
    let s = g.K.Sizes.sight c.args.around.now in
    let es = c.in-Array.items in
    subst (λ x. IsOf (spec.expression s x fs) c.call-in-Array.result)
    (sym (ap source_of c.in-Array.is ∙ source_of-Array c.in-Array.field-0 es))
    (c.call-in-Array.ensures (codes "createArray") (spec.all s (sources (map source_of es.items)) fs) refl
    (subst (λ xs. AreOf (spec.all s (sources (map source_of xs)) fs) c.in_ok-all-in-Array.field-0)
    c.as_slice-in-Array.ensures.value (c.in_ok-all-in-Array.ensures fs h)))

pub measured-returns-in_ok-all-in-Call : goal.measured-returns-in_ok-all-in-Call
measured-returns-in_ok-all-in-Call g t c = λ fs h.
    let s = g.K.Sizes.sight c.args.around.now in
    let row = c.in-Call.row in
    let es = c.in-Call.args in
    subst (λ x. IsOf (spec.expression s x fs) c.call-in-Call.result)
    (sym (ap source_of c.in-Call.is ∙ source_of-Call c.in-Call.field-0 row es))
    (c.call-in-Call.ensures (spelled (row_name row)) (spec.all s (sources (map source_of es.items)) fs)
    c.name_length.ensures
    (subst (λ xs. AreOf (spec.all s (sources (map source_of xs)) fs) c.in_ok-all-in-Call.field-0)
    c.as_slice-in-Call.ensures.value (c.in_ok-all-in-Call.ensures fs h)))

pub members-loop-item-preserved : goal.members-loop-item-preserved
members-loop-item-preserved g t c = λ fs h.
    let s = g.K.Sizes.sight c.args.around.now in
    let items = c.args.items.now in
    let i = c.loop-item.item-index in
    let p = property_of c.item-item.result in
    let rest = spec.members s (properties (map property_of (drop (i + 1) items))) fs in
    let whole = spec.members s (properties (map property_of items)) fs in
    c.with-row.ensures (spec.value s p.2 fs) rest whole (c.in_ok-value_in.ensures fs h)
    (c.with.ensures (text p.1) (more (spec.value s p.2 fs) rest) whole c.name_of.ensures
    (subst (λ ts. Begins c.loop-item.row ts whole)
    (ap (λ xs. spec.members s (properties (map property_of xs)) fs)
    (next_item items i c.item-item.result c.loop-item-test.true c.item-item.is)) (c.loop-item.invariant fs h)))
