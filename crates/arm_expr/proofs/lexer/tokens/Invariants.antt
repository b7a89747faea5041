use Rattle.std.proofs.Common.{◌≡◌, length, map}
use Rattle.std.specs.Str.{chars, IsUtf8}
use Rattle.std.specs.Str.Iter.{chars_rest}
use denote.Text.{Utf8}
use denote.Shadow.{shadow}
use Rattle.arm_expr.specs.Lexer.{lex, between}
use Rattle.arm_expr.specs.Runs.{onto}
use Rattle.arm_expr.specs.Tokens.{token_of}
use Rattle.arm_expr.proofs.lexer.tokens.Given as goal

-- the tokens found, and those of what is left, are those of the text
abbrev pub invariant-loop-c : goal.invariant-loop-c
invariant-loop-c l =
    shadow (Utf8 l.left) × (l.left ≡ chars_rest l.characters)
    × (onto (map token_of l.found.items) (lex between (chars l.left)) ≡ lex between (chars l.text))
    × IsUtf8 l.left

abbrev pub decreases-loop-c : goal.decreases-loop-c
decreases-loop-c l = length (chars l.left)
