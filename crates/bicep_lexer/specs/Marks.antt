-- The marks.
use Rattle.std.specs.Prelude.{ℕ, ◌==◌, ◌&&◌, Option, Some, None, if◌then◌else◌}
use Rattle.bicep_lexer.specs.declared.kind.TokenKind.{TokenKind}
use Rattle.bicep_lexer.specs.declared.kind.TokenKind.TheVariants as k

-- the marks of two bytes
unfoldable pub double_mark : ℕ → ℕ → Option TokenKind
double_mark a b =
    if a == 61 && b == 61 then Some k.Equals
    else if a == 61 && b == 126 then Some k.EqualsInsensitive
    else if a == 33 && b == 61 then Some k.NotEquals
    else if a == 33 && b == 126 then Some k.NotEqualsInsensitive
    else if a == 60 && b == 61 then Some k.LessOrEqual
    else if a == 62 && b == 61 then Some k.GreaterOrEqual
    else if a == 38 && b == 38 then Some k.And
    else if a == 124 && b == 124 then Some k.Or
    else if a == 63 && b == 63 then Some k.DoubleQuestion
    else if a == 46 && b == 63 then Some k.SafeDot
    else if a == 91 && b == 63 then Some k.SafeBracket
    else if a == 58 && b == 58 then Some k.DoubleColon
    else None

-- the marks of one byte, braces apart
unfoldable pub single_mark : ℕ → Option TokenKind
single_mark b =
    if b == 64 then Some k.At
    else if b == 46 then Some k.Dot
    else if b == 40 then Some k.OpenParen
    else if b == 41 then Some k.CloseParen
    else if b == 91 then Some k.OpenBracket
    else if b == 93 then Some k.CloseBracket
    else if b == 44 then Some k.Comma
    else if b == 58 then Some k.Colon
    else if b == 63 then Some k.Question
    else if b == 61 then Some k.Assign
    else if b == 60 then Some k.Less
    else if b == 62 then Some k.Greater
    else if b == 43 then Some k.Plus
    else if b == 45 then Some k.Minus
    else if b == 42 then Some k.Star
    else if b == 47 then Some k.Slash
    else if b == 37 then Some k.Percent
    else if b == 33 then Some k.Not
    else None
