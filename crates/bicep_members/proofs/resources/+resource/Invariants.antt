use Rattle.std.proofs.Common.{◌≡◌, map, drop}
use Rattle.bicep_tree.specs.Tree as tree
use Rattle.bicep_tree.specs.View as view
use Rattle.bicep_members.specs.Parts as spec
use Rattle.bicep_members.proofs.resources.+resource.Given as goal

-- the rest decides
abbrev pub invariant-repeated_in_all_fields-loop-member : goal.invariant-repeated_in_all_fields-loop-member
invariant-repeated_in_all_fields-loop-member l =
    spec.repeated_in_all_fields (tree.members (map view.member_of l.members))
    ≡ spec.repeated_in_all_fields (tree.members (map view.member_of (drop l.member-index l.members)))
