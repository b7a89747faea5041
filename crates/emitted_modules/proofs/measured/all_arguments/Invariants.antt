use Rattle.std.proofs.Common.{List, map, drop}
use Rattle.bicep_resolved.specs.View.{property_of, properties}
use Rattle.bicep_emission.specs.Emitted.{Frame}
use Rattle.emitted_resources.specs.Spans.{AreSpans}
use Rattle.emitted_resources.specs.Measures.{Begins}
use Rattle.emitted_resources.specs.Filled.{emission_sight}
use Rattle.emitted_modules.specs.Arguments.{arguments_extremes}
use Rattle.emitted_modules.proofs.measured.all_arguments.Given as goal

-- what was measured so far, and what is left
abbrev pub invariant-loop-member : goal.invariant-loop-member
invariant-loop-member l =
    let w = emission_sight l.table in
    (fs : List Frame) → AreSpans fs l.spans
    → Begins l.all (arguments_extremes w fs (properties (map property_of (drop l.member-index l.members))))
    (arguments_extremes w fs (properties (map property_of l.members)))
