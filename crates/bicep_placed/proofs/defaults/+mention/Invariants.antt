use Rattle.std.proofs.Common.{◌≡◌, map, drop}
use Rattle.bicep_resolved.specs.View.{source_of, piece_of, property_of, sources, pieces, properties}
use Rattle.bicep_placed.specs.Defaults as spec
use Rattle.bicep_placed.proofs.defaults.+mention.Given as goal

-- the rest decides
abbrev pub invariant-mention_in_all-loop-e : goal.invariant-mention_in_all-loop-e
invariant-mention_in_all-loop-e l =
    spec.mention_in_all (sources (map source_of l.es))
    ≡ spec.mention_in_all (sources (map source_of (drop l.e-index l.es)))

abbrev pub invariant-mention_in_pieces-loop-part : goal.invariant-mention_in_pieces-loop-part
invariant-mention_in_pieces-loop-part l =
    spec.mention_in_pieces (pieces (map piece_of l.parts))
    ≡ spec.mention_in_pieces (pieces (map piece_of (drop l.part-index l.parts)))

abbrev pub invariant-mention_in_properties-loop-member : goal.invariant-mention_in_properties-loop-member
invariant-mention_in_properties-loop-member l =
    spec.mention_in_properties (properties (map property_of l.members))
    ≡ spec.mention_in_properties (properties (map property_of (drop l.member-index l.members)))
