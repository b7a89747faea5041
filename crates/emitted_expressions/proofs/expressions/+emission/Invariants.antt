use Rattle.std.proofs.Common.{◌≡◌, map, drop}
use Rattle.arm_expr.specs.View.{tree_of}
use Rattle.bicep_resolved.specs.View.{source_of, piece_of, property_of, sources, pieces, properties}
use Rattle.emitted_parts.specs.Emitted as e
use Rattle.emitted_parts.proofs.BuiltLemmas.{onto}
use Rattle.emitted_expressions.specs.Sight.{frames_of}
use Rattle.emitted_expressions.specs.Values as spec
use Rattle.emitted_expressions.proofs.expressions.+emission.Given as goal

-- what was built so far, and what is left
abbrev pub invariant-all-loop-item : goal.invariant-all-loop-item
invariant-all-loop-item g l =
    let s = g.K.Declarations.sight l.around in
    onto (map tree_of l.all.items)
    (spec.all s (sources (map source_of (drop l.item-index l.items))) (frames_of l.turns))
    ≡ spec.all s (sources (map source_of l.items)) (frames_of l.turns)

abbrev pub invariant-holes-loop-item : goal.invariant-holes-loop-item
invariant-holes-loop-item g l =
    let s = g.K.Declarations.sight l.around in
    onto (map tree_of l.all.items)
    (e.holes_of s.file s.files s.scope (pieces (map piece_of (drop l.item-index l.items))) (frames_of l.turns))
    ≡ spec.format s l.first (pieces (map piece_of l.items)) (frames_of l.turns)

abbrev pub invariant-members-loop-item : goal.invariant-members-loop-item
invariant-members-loop-item g l =
    let s = g.K.Declarations.sight l.around in
    onto (map tree_of l.all.items)
    (spec.members s (properties (map property_of (drop l.item-index l.items))) (frames_of l.turns))
    ≡ spec.members s (properties (map property_of l.items)) (frames_of l.turns)
