use Rattle.std.proofs.Common.{◌≡◌, drop, length, Some}
use Rattle.std.specs.Str.{chars}
use Rattle.function_numbers.specs.Numbers.{read_on, small}
use Rattle.function_numbers.proofs.numeral.numeral.Given as goal

abbrev pub invariant-loop-c : goal.invariant-loop-c
invariant-loop-c l = (read_on l.number (drop (length l.yielded) (chars l.text)) ≡ read_on 0 (chars l.text))
    × (small l.number ≡ Some l.number)
