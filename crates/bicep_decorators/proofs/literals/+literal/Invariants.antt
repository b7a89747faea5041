use Rattle.std.proofs.Common.{◌≡◌, map, drop}
use Rattle.bicep_tree.specs.Tree.{trees, members}
use Rattle.bicep_tree.specs.View.{tree_of, member_of}
use Rattle.bicep_decorators.specs.Literals.{are_literals, members_are_literals}
use Rattle.bicep_decorators.proofs.literals.+literal.Given as goal

-- the rest decides
abbrev pub invariant-are_literals-loop-item : goal.invariant-are_literals-loop-item
invariant-are_literals-loop-item l =
    are_literals (trees (map tree_of l.items)) ≡ are_literals (trees (map tree_of (drop l.item-index l.items)))

abbrev pub invariant-members_are_literals-loop-member : goal.invariant-members_are_literals-loop-member
invariant-members_are_literals-loop-member l =
    members_are_literals (members (map member_of l.inner))
    ≡ members_are_literals (members (map member_of (drop l.member-index l.inner)))
