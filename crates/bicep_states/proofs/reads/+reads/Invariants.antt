use Rattle.std.proofs.Common.{◌≡◌, map, drop}
use Rattle.bicep_resolved.specs.View.{source_of, piece_of, property_of, sources, pieces, properties}
use Rattle.bicep_mentions.specs.States as spec
use Rattle.bicep_states.specs.View.{known}
use Rattle.bicep_states.proofs.reads.+reads.Given as goal

-- none of those before reads state
abbrev pub invariant-any_reads-loop-e : goal.invariant-any_reads-loop-e
invariant-any_reads-loop-e l =
    spec.any_reads (known l.table) (sources (map source_of l.es)) l.items
    ≡ spec.any_reads (known l.table) (sources (map source_of (drop l.e-index l.es))) l.items

abbrev pub invariant-piece_reads-loop-part : goal.invariant-piece_reads-loop-part
invariant-piece_reads-loop-part l =
    spec.piece_reads (known l.table) (pieces (map piece_of l.parts)) l.items
    ≡ spec.piece_reads (known l.table) (pieces (map piece_of (drop l.part-index l.parts))) l.items

abbrev pub invariant-property_reads-loop-member : goal.invariant-property_reads-loop-member
invariant-property_reads-loop-member l =
    spec.property_reads (known l.table) (properties (map property_of l.members)) l.items
    ≡ spec.property_reads (known l.table) (properties (map property_of (drop l.member-index l.members))) l.items
