use Rattle.std.proofs.Common.{◌≡◌, length}
use Rattle.std.specs.Str.{chars, IsUtf8}
use Rattle.std.specs.Str.Iter.{chars_rest}
use denote.Text.{Utf8}
use denote.Shadow.{shadow}
use Rattle.arm_expr.specs.Runs.{continues, rest}
use Rattle.arm_expr.proofs.lexer.after_run.Given as goal

-- what is left is read on, and what follows the run in it is what follows in all
abbrev pub invariant-loop-c : goal.invariant-loop-c
invariant-loop-c l =
    shadow (Utf8 l.left) × (l.left ≡ chars_rest l.characters)
    × (rest (continues l.run) (chars (chars_rest l.characters)) ≡ rest (continues l.run) (chars l.text))
    × IsUtf8 (chars_rest l.characters)

abbrev pub decreases-loop-c : goal.decreases-loop-c
decreases-loop-c l = length (chars (chars_rest l.characters))
