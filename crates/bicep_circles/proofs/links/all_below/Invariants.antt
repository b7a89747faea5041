use Rattle.std.proofs.Common.{◌≡◌, ◌++◌, map, drop}
use Rattle.bicep_circles.specs.Nodes as spec
use Rattle.bicep_circles.proofs.LinkLemmas.{items_of}
use Rattle.bicep_circles.proofs.links.all_below.Given as goal

-- the rest goes on from what is kept
abbrev pub invariant-loop-list : goal.invariant-loop-list
invariant-loop-list l =
    map items_of l.out.items ++ map (spec.below l.count) (map items_of (drop l.list-index l.lists))
    ≡ map (spec.below l.count) (map items_of l.lists)
