use Rattle.std.proofs.Common.{◌≡◌, map, drop}
use Rattle.bicep_resolved.specs.View.{source_of, property_of, sources, properties}
use Rattle.bicep_placed.specs.Loops as spec
use Rattle.bicep_placed.proofs.loops.+looping.Given as goal

-- the rest decides
abbrev pub invariant-loop_in_all-loop-e : goal.invariant-loop_in_all-loop-e
invariant-loop_in_all-loop-e l =
    spec.loop_in_all (sources (map source_of l.es))
    ≡ spec.loop_in_all (sources (map source_of (drop l.e-index l.es)))

abbrev pub invariant-loop_in_members-loop-member : goal.invariant-loop_in_members-loop-member
invariant-loop_in_members-loop-member l =
    spec.loop_in_members (properties (map property_of l.members))
    ≡ spec.loop_in_members (properties (map property_of (drop l.member-index l.members)))
