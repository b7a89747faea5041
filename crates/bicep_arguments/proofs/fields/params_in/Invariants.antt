use Rattle.std.proofs.Common.{◌≡◌, map, drop}
use Rattle.bicep_tree.specs.Tree as tree
use Rattle.bicep_tree.specs.View as view
use Rattle.bicep_arguments.specs.Arguments as spec
use Rattle.bicep_arguments.proofs.fields.params_in.Given as goal

-- the rest decides
abbrev pub invariant-loop-member : goal.invariant-loop-member
invariant-loop-member l =
    spec.params_in (tree.members (map view.member_of l.members))
    ≡ spec.params_in (tree.members (map view.member_of (drop l.member-index l.members)))
