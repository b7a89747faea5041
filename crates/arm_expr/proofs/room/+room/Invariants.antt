use Rattle.std.proofs.Common.{◌≡◌, ◌+◌, drop, map}
use Rattle.arm_expr.specs.Tree.{trees}
use Rattle.arm_expr.specs.Print.{arguments_size}
use Rattle.arm_expr.specs.View.{tree_of}
use Rattle.arm_expr.proofs.room.+room.Given as goal

-- what is left holds the arguments that are left where the room holds all of them
abbrev pub invariant-left_after_arguments-loop-argument : goal.invariant-left_after_arguments-loop-argument
invariant-left_after_arguments-loop-argument l =
    l.left + 1 + arguments_size 0 (trees (map tree_of l.arguments)) ≡ l.room + arguments_size l.before
    (trees (map tree_of (drop l.argument-index l.arguments)))
