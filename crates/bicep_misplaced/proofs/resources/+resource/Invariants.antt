use Rattle.std.proofs.Common.{◌≡◌, map, drop}
use Rattle.bicep_tree.specs.Tree as tree
use Rattle.bicep_tree.specs.View as view
use Rattle.bicep_misplaced.specs.Resources as spec
use Rattle.bicep_misplaced.proofs.resources.+resource.Given as goal

-- the rest decides
abbrev pub invariant-bad_in_all_fields-loop-member : goal.invariant-bad_in_all_fields-loop-member
invariant-bad_in_all_fields-loop-member l =
    spec.bad_in_all_fields l.owner l.repeated (tree.members (map view.member_of l.members))
    ≡ spec.bad_in_all_fields l.owner l.repeated (tree.members (map view.member_of (drop l.member-index l.members)))
