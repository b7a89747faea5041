use Rattle.std.proofs.Common.{List, map, drop}
use Rattle.bicep_resolved.specs.View.{source_of, piece_of, property_of, sources, pieces, properties}
use Rattle.bicep_emission.specs.Emitted as e
use Rattle.bicep_emission.specs.Emitted.{Frame}
use Rattle.emitted_sizes.specs.Extent.{Begins}
use Rattle.emitted_expressions.specs.Values as spec
use Rattle.measured_expressions.specs.Spans.{AreSpans}
use Rattle.measured_expressions.proofs.expressions.+measures.Given as goal

-- what was measured so far, and what is left
abbrev pub invariant-all-loop-item : goal.invariant-all-loop-item
invariant-all-loop-item g l =
    let s = g.K.Sizes.sight l.around in
    (fs : List Frame) → AreSpans fs l.spans
    → Begins l.row (spec.all s (sources (map source_of (drop l.item-index l.items))) fs)
    (spec.all s (sources (map source_of l.items)) fs)

abbrev pub invariant-holes-loop-item : goal.invariant-holes-loop-item
invariant-holes-loop-item g l =
    let s = g.K.Sizes.sight l.around in
    (fs : List Frame) → AreSpans fs l.spans
    → Begins l.row (e.holes_of s.file s.files s.scope (pieces (map piece_of (drop l.item-index l.items))) fs)
    (spec.format s l.first (pieces (map piece_of l.items)) fs)

abbrev pub invariant-members-loop-item : goal.invariant-members-loop-item
invariant-members-loop-item g l =
    let s = g.K.Sizes.sight l.around in
    (fs : List Frame) → AreSpans fs l.spans
    → Begins l.row (spec.members s (properties (map property_of (drop l.item-index l.items))) fs)
    (spec.members s (properties (map property_of l.items)) fs)
