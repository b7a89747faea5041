use Rattle.std.proofs.Common.{◌≡◌, map, drop}
use Rattle.bicep_resolved.specs.View.{property_of, properties}
use Rattle.emitted_trees.specs.EmittedTrees.{has_copy}
use Rattle.tree_building.proofs.literals.has_copy.Given as goal

-- the rest decides
abbrev pub invariant-loop-item : goal.invariant-loop-item
invariant-loop-item l =
    has_copy (properties (map property_of l.items))
    ≡ has_copy (properties (map property_of (drop l.item-index l.items)))
