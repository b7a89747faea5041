use Rattle.std.proofs.Common.{◌≡◌, map, drop}
use Rattle.bicep_resolved.specs.View.{source_of, piece_of, property_of, sources, pieces, properties}
use Rattle.bicep_typing.specs.Names.{types_in}
use Rattle.bicep_typing.specs.Typing.{members_fit, holes_fit, properties_fit, arguments_left}
use Rattle.bicep_typing.proofs.expressions.+types.Given as goal

-- what is left decides
abbrev pub invariant-arguments_left-loop-argument : goal.invariant-arguments_left-loop-argument
invariant-arguments_left-loop-argument l =
    arguments_left (types_in l.symbols l.outputs) (sources (map source_of l.arguments)) l.fn.ways
    ≡ arguments_left (types_in l.symbols l.outputs) (sources (map source_of (drop l.argument-index l.arguments))) l.left

abbrev pub invariant-members_fit-loop-member : goal.invariant-members_fit-loop-member
invariant-members_fit-loop-member l =
    members_fit (types_in l.symbols l.outputs) (sources (map source_of l.members))
    ≡ members_fit (types_in l.symbols l.outputs) (sources (map source_of (drop l.member-index l.members)))

abbrev pub invariant-holes_fit-loop-hole : goal.invariant-holes_fit-loop-hole
invariant-holes_fit-loop-hole l =
    holes_fit (types_in l.symbols l.outputs) (pieces (map piece_of l.holes))
    ≡ holes_fit (types_in l.symbols l.outputs) (pieces (map piece_of (drop l.hole-index l.holes)))

abbrev pub invariant-properties_fit-loop-member : goal.invariant-properties_fit-loop-member
invariant-properties_fit-loop-member l =
    properties_fit (types_in l.symbols l.outputs) (properties (map property_of l.members))
    ≡ properties_fit (types_in l.symbols l.outputs) (properties (map property_of (drop l.member-index l.members)))
