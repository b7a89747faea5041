use Rattle.std.proofs.Common.{◌≡◌, map, drop}
use Rattle.bicep_tree.specs.Tree as tree
use Rattle.bicep_tree.specs.View as view
use Rattle.bicep_symbols.specs.Entries as spec
use Rattle.bicep_symbols.proofs.listing.+entries.Given as goal

-- the rest goes on from what is listed
abbrev pub invariant-add_members-loop-member : goal.invariant-add_members-loop-member
invariant-add_members-loop-member l =
    spec.with_members l.number (tree.members (map view.member_of l.members)) (map spec.symbol_of l.initial.out.items)
    ≡ spec.with_members l.number (tree.members (map view.member_of (drop l.member-index l.members)))
    (map spec.symbol_of l.out.items)
