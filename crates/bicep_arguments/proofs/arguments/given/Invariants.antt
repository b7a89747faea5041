use Rattle.std.proofs.Common.{◌≡◌, [], map, drop}
use Rattle.bicep_tree.specs.Tree as tree
use Rattle.bicep_tree.specs.View as view
use Rattle.bicep_arguments.specs.Arguments as spec
use Rattle.bicep_arguments.proofs.arguments.given.Given as goal

-- the rest goes on from the names so far
abbrev pub invariant-loop-argument : goal.invariant-loop-argument
invariant-loop-argument l =
    spec.given_after [] (tree.members (map view.member_of l.arguments))
    ≡ spec.given_after l.names (tree.members (map view.member_of (drop l.argument-index l.arguments)))
