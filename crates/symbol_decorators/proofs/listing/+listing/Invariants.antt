use Rattle.std.proofs.Common.{◌≡◌, map, drop}
use Rattle.bicep_tree.specs.Tree as tree
use Rattle.bicep_tree.specs.View as view
use Rattle.symbol_decorators.specs.Decorators as spec
use Rattle.symbol_decorators.specs.View.{decorators_at}
use Rattle.symbol_decorators.proofs.listing.+listing.Given as goal

-- the rest goes on from what is listed
abbrev pub invariant-add_members-loop-member : goal.invariant-add_members-loop-member
invariant-add_members-loop-member l =
    spec.with_members (tree.members (map view.member_of l.members)) (map decorators_at l.initial.out.items)
    ≡ spec.with_members (tree.members (map view.member_of (drop l.member-index l.members)))
    (map decorators_at l.out.items)
