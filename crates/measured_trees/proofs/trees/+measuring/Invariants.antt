use Rattle.std.proofs.Common.{List, map, drop}
use Rattle.bicep_resolved.specs.View.{source_of, property_of, sources, properties}
use Rattle.tree_building.specs.Emitted.{Frame}
use Rattle.measured_expressions.specs.Spans.{AreSpans}
use Rattle.tree_building.specs.Sight as spec
use Rattle.measured_trees.specs.Extremes.{items_extremes, members_extremes}
use Rattle.measured_trees.specs.Measures.{Begins}
use Rattle.measured_trees.proofs.trees.+measuring.Given as goal

-- what was measured so far, and what is left
abbrev pub invariant-all-loop-item : goal.invariant-all-loop-item
invariant-all-loop-item g l =
    let s = g.K.Extents.sight l.around in
    (fs : List Frame) → AreSpans fs l.spans
    → Begins l.all (items_extremes (spec.items s (sources (map source_of (drop l.item-index l.items))) fs))
    (items_extremes (spec.items s (sources (map source_of l.items)) fs))

abbrev pub invariant-members-loop-item : goal.invariant-members-loop-item
invariant-members-loop-item g l =
    let s = g.K.Extents.sight l.around in
    (fs : List Frame) → AreSpans fs l.spans
    → Begins l.all (members_extremes (spec.members s (properties (map property_of (drop l.item-index l.items))) fs))
    (members_extremes (spec.members s (properties (map property_of l.items)) fs))
