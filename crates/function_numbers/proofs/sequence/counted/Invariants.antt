use Rattle.std.proofs.Common.{◌≡◌, ◌++◌, ◌-◌, pos}
use Rattle.std.proofs.Common.{◌+ℤ◌}
use Rattle.function_numbers.specs.Numbers.{counted}
use Rattle.function_numbers.proofs.sequence.counted.Given as goal

abbrev pub invariant-loop-i : goal.invariant-loop-i
invariant-loop-i l = l.items ++ counted (l.first +ℤ pos l.i) (l.count - l.i) ≡ counted l.first l.count
