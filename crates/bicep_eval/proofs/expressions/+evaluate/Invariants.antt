use Rattle.std.proofs.Common.{◌≡◌, ◌∷◌, ◌-◌, List, map, drop}
use Rattle.arm_value.specs.Json.{Json}
use Rattle.arm_value.specs.View.{json, member}
use Rattle.reading.specs.Knowledge.{told, value}
use Rattle.deploy_cells.specs.Guarded.{Reads}
use Rattle.bicep_resolved.specs.View.{source_of, piece_of, property_of, sources, pieces, properties}
use Rattle.bicep_meaning.specs.Rows.{all}
use Rattle.bicep_meaning.specs.Around.{Frame, runs}
use Rattle.bicep_outcomes.proofs.ListLemmas.{follow, seen}
use Rattle.bicep_surroundings.specs.Sight.{AreSeen}
use Rattle.bicep_eval.specs.Values as spec
use Rattle.bicep_eval.proofs.expressions.+evaluate.Given as goal

-- what was found so far, and what is told of the rest
abbrev pub invariant-values-loop-item : goal.invariant-values-loop-item
invariant-values-loop-item g l =
    let s = g.K.Surroundings.sight l.around in
    (fs : List Frame) → AreSeen s l.turns fs
    → told s.known (spec.values s (sources (map source_of l.items)) fs)
    ≡ follow (seen json l.all) (told s.known (spec.values s (sources (map source_of (drop l.item-index l.items))) fs))

abbrev pub invariant-holes-loop-item : goal.invariant-holes-loop-item
invariant-holes-loop-item g l =
    let s = g.K.Surroundings.sight l.around in
    (fs : List Frame) → AreSeen s l.turns fs
    → told s.known (spec.texts s (pieces (map piece_of l.items)) fs)
    ≡ follow (seen (λ t. t) l.all) (told s.known (spec.texts s (pieces (map piece_of
    (drop l.item-index l.items))) fs))

abbrev pub invariant-members-loop-item : goal.invariant-members-loop-item
invariant-members-loop-item g l =
    let s = g.K.Surroundings.sight l.around in
    (fs : List Frame) → AreSeen s l.turns fs
    → told s.known (spec.members s (properties (map property_of l.items)) fs)
    ≡ follow (seen member l.all)
    (told s.known (spec.members s (properties (map property_of (drop l.item-index l.items))) fs))

-- the rest decides
abbrev pub invariant-first_there-loop-arg : goal.invariant-first_there-loop-arg
invariant-first_there-loop-arg g l =
    let s = g.K.Surroundings.sight l.around in
    (fs : List Frame) → AreSeen s l.turns fs
    → told s.known (spec.first_there s (sources (map source_of l.args)) fs)
    ≡ told s.known (spec.first_there s (sources (map source_of (drop l.arg-index l.args))) fs)

-- the runs so far, and what is told of those that are left
abbrev pub invariant-runs-loop-index : goal.invariant-runs-loop-index
invariant-runs-loop-index g l =
    let s = g.K.Surroundings.sight l.around in
    (fs : List Frame) (xs : Reads Json) → AreSeen s l.turns fs → told s.known xs ≡ value (json l.over)
    → told s.known (all (runs (λ f. spec.value s (source_of l.body) (f ∷ fs)) xs 0 l.count))
    ≡ follow (seen json l.all)
    (told s.known (all (runs (λ f. spec.value s (source_of l.body) (f ∷ fs)) xs l.index (l.count - l.index))))
