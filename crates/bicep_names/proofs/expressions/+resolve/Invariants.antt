use Rattle.std.proofs.Common.{◌≡◌, map, drop}
use Rattle.bicep_resolved.specs.View.{source_of, piece_of, property_of}
use Rattle.bicep_found.specs.Found.{all_found}
use Rattle.bicep_found.proofs.GatherLemmas.{after}
use Rattle.bicep_names.specs.Scope.{scope}
use Rattle.bicep_names.proofs.PartLemmas.{item_of, piece_found, property_found}
use Rattle.bicep_names.proofs.expressions.+resolve.Given as goal

-- what was found so far, and then what is found of the rest
abbrev pub invariant-resolve_all-loop-e : goal.invariant-resolve_all-loop-e
invariant-resolve_all-loop-e l =
    let part = item_of (scope l.symbols l.outputs) (map (λ x. x.now) l.loops) in
    all_found (map part l.es) ≡ after (map source_of l.found.items) (all_found (map part (drop l.e-index l.es)))

abbrev pub invariant-resolve_holes-loop-hole : goal.invariant-resolve_holes-loop-hole
invariant-resolve_holes-loop-hole l =
    let part = piece_found (scope l.symbols l.outputs) (map (λ x. x.now) l.loops) in
    all_found (map part l.holes)
    ≡ after (map piece_of l.found.items) (all_found (map part (drop l.hole-index l.holes)))

abbrev pub invariant-resolve_members-loop-member : goal.invariant-resolve_members-loop-member
invariant-resolve_members-loop-member l =
    let part = property_found (scope l.symbols l.outputs) (map (λ x. x.now) l.loops) in
    all_found (map part l.members)
    ≡ after (map property_of l.found.items) (all_found (map part (drop l.member-index l.members)))
