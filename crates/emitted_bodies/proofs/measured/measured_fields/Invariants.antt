use Rattle.std.proofs.Common.{List, map, drop}
use Rattle.bicep_resolved.specs.View.{property_of, properties}
use Rattle.measured_expressions.specs.Emitted.{Frame}
use Rattle.measured_expressions.specs.Spans.{AreSpans}
use Rattle.measured_trees.specs.Extremes.{members_extremes}
use Rattle.measured_trees.specs.Measures.{Begins}
use Rattle.emitted_bodies.specs.Bodies.{body_members}
use Rattle.emitted_bodies.proofs.measured.measured_fields.Given as goal

-- what was measured so far, and what is left
abbrev pub invariant-loop-field : goal.invariant-loop-field
invariant-loop-field g l =
    let w = g.K.Extents.sight l.around in
    (fs : List Frame) → AreSpans fs l.spans
    → Begins l.all (members_extremes (body_members w (properties (map property_of (drop l.field-index l.fields))) fs))
    (members_extremes (body_members w (properties (map property_of l.fields)) fs))
