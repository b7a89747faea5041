use Rattle.std.proofs.Common.{◌≡◌, map, drop}
use Rattle.bicep_tree.specs.Tree as tree
use Rattle.bicep_tree.specs.View as view
use Rattle.bicep_type_texts.specs.Files as spec
use Rattle.bicep_type_texts.proofs.files.+nested.Given as goal

-- the rest decides
abbrev pub invariant-bad_in_members-loop-member : goal.invariant-bad_in_members-loop-member
invariant-bad_in_members-loop-member l =
    spec.bad_in_members (tree.members (map view.member_of l.members))
    ≡ spec.bad_in_members (tree.members (map view.member_of (drop l.member-index l.members)))
