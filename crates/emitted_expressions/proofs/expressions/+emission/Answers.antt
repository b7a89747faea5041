use Rattle.std.proofs.Common.{◌+◌, ap, map, drop}
use Rattle.std.proofs.lemmas.List.{drop_all}
use Rattle.arm_expr.specs.Tree.{text}
use Rattle.bicep_resolved.specs.View.{source_of, piece_of, property_of, sources, pieces, properties}
use Rattle.emitted_parts.specs.Emitted as e
use Rattle.emitted_parts.specs.Texts.{format_text}
use Rattle.emitted_parts.proofs.BuiltLemmas.{grown, grown_twice, all_grown, one_grown}
use Rattle.emitted_expressions.specs.Sight.{frames_of}
use Rattle.emitted_expressions.specs.Values as spec
use Rattle.emitted_expressions.proofs.expressions.+emission.Goals as goal
use Rattle.foundation.proofs.Lists.{next_item}

pub all-loop-item-preserved : goal.all-loop-item-preserved
all-loop-item-preserved g t c =
    let s = g.K.Declarations.sight c.args.around.now in
    let items = c.args.items.now in
    let i = c.loop-item.item-index in
    let fs = frames_of c.args.turns.now in
    grown c.loop-item.all c.in-Ok.more c.emitted.result (spec.expression s (source_of c.item-item.result) fs)
    (spec.all s (sources (map source_of (drop i items))) fs)
    (spec.all s (sources (map source_of (drop (i + 1) items))) fs) (spec.all s (sources (map source_of items)) fs)
    c.in-Ok.ensures c.emitted.ensures c.loop-item.invariant
    (ap (λ xs. spec.all s (sources (map source_of xs)) fs)
    (next_item items i c.item-item.result c.loop-item-test.true c.item-item.is))

pub all-returns : goal.all-returns
all-returns g t c =
    let s = g.K.Declarations.sight c.args.around.now in
    let items = c.args.items.now in
    let i = c.loop-item.item-index in
    let fs = frames_of c.args.turns.now in
    all_grown c.loop-item.all (spec.all s (sources (map source_of (drop i items))) fs)
    (spec.all s (sources (map source_of items)) fs) c.loop-item.invariant
    (ap (λ xs. spec.all s (sources (map source_of xs)) fs) (drop_all i items c.loop-item-test.false))

pub holes-loop-item-init : goal.holes-loop-item-init
holes-loop-item-init g t c =
    let s = g.K.Declarations.sight c.args.around.now in
    let ps = pieces (map piece_of c.args.items.now) in
    one_grown c.new.result c.in-Ok.all c.format_argument.result (text (format_text 0 c.args.first.now ps))
    (e.holes_of s.file s.files s.scope ps (frames_of c.args.turns.now)) c.new.ensures.items c.in-Ok.ensures
    c.format_argument.ensures

pub holes-loop-item-preserved : goal.holes-loop-item-preserved
holes-loop-item-preserved g t c =
    let s = g.K.Declarations.sight c.args.around.now in
    let items = c.args.items.now in
    let i = c.loop-item.item-index in
    let fs = frames_of c.args.turns.now in
    grown c.loop-item.all c.in-Ok-with.more c.hole.result (spec.expression s (piece_of c.item-item.result).0 fs)
    (e.holes_of s.file s.files s.scope (pieces (map piece_of (drop i items))) fs)
    (e.holes_of s.file s.files s.scope (pieces (map piece_of (drop (i + 1) items))) fs)
    (spec.format s c.args.first.now (pieces (map piece_of items)) fs)
    c.in-Ok-with.ensures c.hole.ensures c.loop-item.invariant
    (ap (λ xs. e.holes_of s.file s.files s.scope (pieces (map piece_of xs)) fs)
    (next_item items i c.item-item.result c.loop-item-test.true c.item-item.is))

pub holes-returns : goal.holes-returns
holes-returns g t c =
    let s = g.K.Declarations.sight c.args.around.now in
    let items = c.args.items.now in
    let i = c.loop-item.item-index in
    let fs = frames_of c.args.turns.now in
    all_grown c.loop-item.all (e.holes_of s.file s.files s.scope (pieces (map piece_of (drop i items))) fs)
    (spec.format s c.args.first.now (pieces (map piece_of items)) fs) c.loop-item.invariant
    (ap (λ xs. e.holes_of s.file s.files s.scope (pieces (map piece_of xs)) fs)
    (drop_all i items c.loop-item-test.false))

pub members-loop-item-preserved : goal.members-loop-item-preserved
members-loop-item-preserved g t c =
    let s = g.K.Declarations.sight c.args.around.now in
    let items = c.args.items.now in
    let i = c.loop-item.item-index in
    let fs = frames_of c.args.turns.now in
    let p = property_of c.item-item.result in
    grown_twice c.loop-item.all c.in-Ok.more c.with.result c.name_of.result c.value_in-value.result (text p.1)
    (spec.value s p.2 fs) (spec.members s (properties (map property_of (drop i items))) fs)
    (spec.members s (properties (map property_of (drop (i + 1) items))) fs)
    (spec.members s (properties (map property_of items)) fs)
    c.with.ensures c.in-Ok.ensures c.name_of.ensures c.value_in-value.ensures c.loop-item.invariant
    (ap (λ xs. spec.members s (properties (map property_of xs)) fs)
    (next_item items i c.item-item.result c.loop-item-test.true c.item-item.is))

pub members-returns : goal.members-returns
members-returns g t c =
    let s = g.K.Declarations.sight c.args.around.now in
    let items = c.args.items.now in
    let i = c.loop-item.item-index in
    let fs = frames_of c.args.turns.now in
    all_grown c.loop-item.all (spec.members s (properties (map property_of (drop i items))) fs)
    (spec.members s (properties (map property_of items)) fs) c.loop-item.invariant
    (ap (λ xs. spec.members s (properties (map property_of xs)) fs) (drop_all i items c.loop-item-test.false))
