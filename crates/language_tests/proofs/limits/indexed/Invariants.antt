use Rattle.arm_expr.specs.Print.{HasNames}
use Rattle.arm_expr.specs.View.{tree_of}
use Rattle.language_tests.proofs.limits.indexed.Given as goal

abbrev pub invariant-loop : goal.invariant-loop
invariant-loop l = HasNames (tree_of l.e)
