use Rattle.std.proofs.Common.{◌≡◌, map, drop}
use Rattle.bicep_tree.specs.Tree as tree
use Rattle.bicep_tree.specs.View as view
use Rattle.bicep_misplaced.specs.Expressions as spec
use Rattle.bicep_misplaced.proofs.expressions.+bad.Given as goal

-- the rest decides
abbrev pub invariant-bad_in_all-loop-e : goal.invariant-bad_in_all-loop-e
invariant-bad_in_all-loop-e l =
    spec.bad_in_all l.spot (tree.trees (map view.tree_of l.es))
    ≡ spec.bad_in_all l.spot (tree.trees (map view.tree_of (drop l.e-index l.es)))

abbrev pub invariant-bad_in_holes-loop-hole : goal.invariant-bad_in_holes-loop-hole
invariant-bad_in_holes-loop-hole l =
    spec.bad_in_holes l.spot (tree.holes (map view.hole_of l.holes))
    ≡ spec.bad_in_holes l.spot (tree.holes (map view.hole_of (drop l.hole-index l.holes)))

abbrev pub invariant-bad_in_members-loop-member : goal.invariant-bad_in_members-loop-member
invariant-bad_in_members-loop-member l =
    spec.bad_in_members l.spot (tree.members (map view.member_of l.members))
    ≡ spec.bad_in_members l.spot (tree.members (map view.member_of (drop l.member-index l.members)))
