use Rattle.std.proofs.Common.{◌≡◌, map, drop}
use Rattle.bicep_tree.specs.Tree as tree
use Rattle.bicep_tree.specs.View as view
use Rattle.bicep_members.specs.Parts as spec
use Rattle.bicep_members.proofs.expressions.+repeated.Given as goal

-- the rest decides
abbrev pub invariant-repeated_in_all-loop-e : goal.invariant-repeated_in_all-loop-e
invariant-repeated_in_all-loop-e l =
    spec.repeated_in_all (tree.trees (map view.tree_of l.es))
    ≡ spec.repeated_in_all (tree.trees (map view.tree_of (drop l.e-index l.es)))

abbrev pub invariant-repeated_in_holes-loop-hole : goal.invariant-repeated_in_holes-loop-hole
invariant-repeated_in_holes-loop-hole l =
    spec.repeated_in_holes (tree.holes (map view.hole_of l.holes))
    ≡ spec.repeated_in_holes (tree.holes (map view.hole_of (drop l.hole-index l.holes)))

abbrev pub invariant-repeated_in_members-loop-member : goal.invariant-repeated_in_members-loop-member
invariant-repeated_in_members-loop-member l =
    spec.repeated_in_members (tree.members (map view.member_of l.members))
    ≡ spec.repeated_in_members (tree.members (map view.member_of (drop l.member-index l.members)))
