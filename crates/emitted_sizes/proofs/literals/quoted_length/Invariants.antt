use Rattle.std.proofs.Common.{◌≡◌, ◌≤◌, ◌+◌, ◌-◌, ◌^◌, length, drop}
use Rattle.std.specs.Str.{chars}
use Rattle.arm_expr.specs.Grammar.{doubled}
use Rattle.emitted_sizes.specs.Extent.{bounded, quoted}
use Rattle.emitted_sizes.proofs.literals.quoted_length.Given as goal

-- what is counted, and what is left
abbrev pub invariant-loop-c : goal.invariant-loop-c
invariant-loop-c l =
    (l.length ≤ 2 ^ 64 - 1)
    × (bounded (l.length + length (doubled (drop (length l.yielded) (chars l.characters))))
    ≡ bounded (quoted (chars l.characters)))
