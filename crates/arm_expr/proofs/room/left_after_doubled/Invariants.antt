use Rattle.std.proofs.Common.{◌≡◌, ◌+◌, length, drop}
use Rattle.std.specs.Str.{chars}
use Rattle.arm_expr.specs.Grammar.{doubled}
use Rattle.arm_expr.proofs.room.left_after_doubled.Given as goal

-- what is left holds what is left of the text where the room holds all of it
abbrev pub invariant-loop-c : goal.invariant-loop-c
invariant-loop-c l =
    l.left + length (doubled (chars l.text)) ≡ l.room + length (doubled (drop (length l.yielded) (chars l.text)))
