-- The tokens of a text.
use Rattle.std.specs.Prelude.{ℕ, ℤ, List}
use Rattle.arm_expr.specs.declared.token.Token as tokens
use Rattle.arm_expr.specs.declared.token.Token.TheVariants as token

pub data Token : Type 0 where
  a_text : List ℕ → Token
  an_int : ℤ → Token
  a_name : List ℕ → Token
  open_paren : Token
  close_paren : Token
  open_bracket : Token
  close_bracket : Token
  comma : Token
  dot : Token

abbrev pub token_of : tokens.Token → Token
token_of (token.Text s) = a_text s
token_of (token.Int z) = an_int z
token_of (token.Name n) = a_name n
token_of token.OpenParen = open_paren
token_of token.CloseParen = close_paren
token_of token.OpenBracket = open_bracket
token_of token.CloseBracket = close_bracket
token_of token.Comma = comma
token_of token.Dot = dot
