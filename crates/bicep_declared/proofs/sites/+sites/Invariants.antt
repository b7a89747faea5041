use Rattle.std.proofs.Common.{◌≡◌, map, drop}
use Rattle.bicep_tree.specs.Tree as tree
use Rattle.bicep_tree.specs.View as view
use Rattle.bicep_declared.specs.Sites as spec
use Rattle.bicep_declared.specs.View.{site_tree}
use Rattle.bicep_declared.proofs.sites.+sites.Given as goal

-- the rest goes on from what is listed
abbrev pub invariant-add_members-loop-member : goal.invariant-add_members-loop-member
invariant-add_members-loop-member l =
    spec.with_members (tree.members (map view.member_of l.members)) (map site_tree l.initial.out.items)
    ≡ spec.with_members (tree.members (map view.member_of (drop l.member-index l.members))) (map site_tree l.out.items)
