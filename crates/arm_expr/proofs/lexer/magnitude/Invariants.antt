use Rattle.std.proofs.Common.{◌≡◌, drop}
use Rattle.arm_expr.specs.Grammar.{value_from}
use Rattle.arm_expr.proofs.lexer.magnitude.Given as goal

abbrev pub invariant-loop-d : goal.invariant-loop-d
invariant-loop-d l = value_from l.n (drop l.d-index l.digits) ≡ value_from 0 l.digits
