use Rattle.std.proofs.Common.{◌≡◌, ◌++◌, map, drop}
use Rattle.bicep_resolved.specs.View.{source_of, piece_of, property_of, sources, pieces, properties}
use Rattle.bicep_circles.specs.Mentions as spec
use Rattle.bicep_circles.proofs.mentions.+mentions.Given as goal

-- the rest goes on from what is listed
abbrev pub invariant-add_all-loop-e : goal.invariant-add_all-loop-e
invariant-add_all-loop-e l =
    l.initial.out.items ++ spec.all_mentions (sources (map source_of l.es))
    ≡ l.out.items ++ spec.all_mentions (sources (map source_of (drop l.e-index l.es)))

abbrev pub invariant-add_pieces-loop-part : goal.invariant-add_pieces-loop-part
invariant-add_pieces-loop-part l =
    l.initial.out.items ++ spec.piece_mentions (pieces (map piece_of l.parts))
    ≡ l.out.items ++ spec.piece_mentions (pieces (map piece_of (drop l.part-index l.parts)))

abbrev pub invariant-add_properties-loop-member : goal.invariant-add_properties-loop-member
invariant-add_properties-loop-member l =
    l.initial.out.items ++ spec.property_mentions (properties (map property_of l.members))
    ≡ l.out.items ++ spec.property_mentions (properties (map property_of (drop l.member-index l.members)))
