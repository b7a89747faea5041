use Rattle.std.proofs.Common.{◌≡◌, map, drop}
use Rattle.bicep_tree.specs.Tree as tree
use Rattle.bicep_tree.specs.View as view
use Rattle.bicep_misplaced.specs.Resources as spec
use Rattle.bicep_misplaced.proofs.resources.has_parent.Given as goal

-- the rest decides
abbrev pub invariant-loop-member : goal.invariant-loop-member
invariant-loop-member l =
    spec.has_field spec.parent_word (tree.members (map view.member_of l.members))
    ≡ spec.has_field spec.parent_word (tree.members (map view.member_of (drop l.member-index l.members)))
