use Rattle.std.proofs.Common.{arith, map, drop, ◌+◌}
use Rattle.arm_expr.specs.Tree.{trees}
use Rattle.arm_expr.specs.View.{tree_of}
use Rattle.arm_expr.proofs.PrintLemmas.{one_at_least, next_argument}
use Rattle.arm_expr.proofs.room.+room.Goals as goal

pub left_after_arguments-returns-in_err-left : goal.left_after_arguments-returns-in_err-left
left_after_arguments-returns-in_err-left t c =
    rw c.from_residual.ensures
    (omega (arith, one_at_least 0 (trees (map tree_of c.args.arguments.now)), c.in_err-left.ensures))

pub left_after_arguments-returns-in_err-checked_sub : goal.left_after_arguments-returns-in_err-checked_sub
left_after_arguments-returns-in_err-checked_sub t c =
    let xs = c.args.arguments.now in
    let i = c.loop-argument.argument-index in
    rw c.from_residual-in_err-checked_sub.ensures
    (omega (
      arith,
      next_argument c.loop-argument.before i xs c.argument-item.result (omega arith) c.argument-item.is,
      one_at_least 2 (trees (map tree_of (drop (i + 1) xs))),
      c.loop-argument.invariant,
      c.in_err-checked_sub.ensures,
    ))

pub left_after_arguments-returns-in_err-left-2 : goal.left_after_arguments-returns-in_err-left-2
left_after_arguments-returns-in_err-left-2 t c =
    let xs = c.args.arguments.now in
    let i = c.loop-argument.argument-index in
    rw c.from_residual-in_err-left-2.ensures
    (omega (
      arith,
      next_argument c.loop-argument.before i xs c.argument-item.result (omega arith) c.argument-item.is,
      one_at_least 2 (trees (map tree_of (drop (i + 1) xs))),
      c.loop-argument.invariant,
      c.in_ok-checked_sub.ensures,
      c.in_err-left-2.ensures,
    ))
