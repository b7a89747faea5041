use Rattle.std.proofs.Common.{◌≡◌, map, drop}
use Rattle.bicep_tree.specs.Tree as tree
use Rattle.bicep_tree.specs.View as view
use Rattle.bicep_members.specs.Labels as spec
use Rattle.bicep_members.proofs.labels.repeated_folded.Given as goal

-- the rest decides
abbrev pub invariant-loop-member : goal.invariant-loop-member
invariant-loop-member l =
    spec.repeated_folded (tree.members (map view.member_of l.members))
    ≡ spec.repeated_folded_from l.before (tree.members (map view.member_of (drop l.member-index l.members)))
