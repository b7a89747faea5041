use Rattle.std.proofs.Common.{◌≡◌, map, drop}
use Rattle.bicep_tree.specs.Tree as tree
use Rattle.bicep_tree.specs.View as view
use Rattle.bicep_arguments.specs.Arguments as spec
use Rattle.bicep_arguments.proofs.arguments.extra_in.Given as goal

-- the rest decides
abbrev pub invariant-loop-argument : goal.invariant-loop-argument
invariant-loop-argument l =
    spec.extra_in l.names (tree.members (map view.member_of l.arguments))
    ≡ spec.extra_in l.names (tree.members (map view.member_of (drop l.argument-index l.arguments)))
