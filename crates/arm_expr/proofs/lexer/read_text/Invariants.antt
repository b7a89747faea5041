use Rattle.std.proofs.Common.{◌≡◌, ◌≤◌, [], length, map}
use Rattle.std.specs.Str.{chars}
use denote.Text.{Utf8}
use denote.Shadow.{shadow}
use Rattle.arm_expr.specs.Lexer.{lex, quoting}
use Rattle.arm_expr.specs.Tokens.{token_of}
use Rattle.arm_expr.specs.View.{text_of}
use Rattle.arm_expr.proofs.lexer.read_text.Given as goal

-- the string so far goes on with what is left, and no token is added
abbrev pub invariant-parts : goal.invariant-parts
invariant-parts l =
    shadow (Utf8 l.left) × (lex (quoting (text_of l.value)) (chars l.left) ≡ lex (quoting []) (chars l.text))
    × (length (chars l.left) ≤ length (chars l.text))
    × (map token_of l.tokens.items ≡ map token_of l.initial.tokens.items)

abbrev pub decreases-parts : goal.decreases-parts
decreases-parts l = length (chars l.left)
