-- Tokens and their places.
use Rattle.std.specs.Prelude.{ℕ, List}
use Rattle.bicep_lexer.specs.declared.kind.TokenKind.{TokenKind}
use Rattle.bicep_lexer.specs.declared.token.Token.{Token}

-- a token of a source: its kind, its offset in bytes, and its bytes
abbrev pub Standing : Type 0
Standing = TokenKind × ℕ × List ℕ

abbrev pub standing : Token → Standing
standing t = (t.kind, t.at, t.text.now)
