-- What tokens mean, character by character. Of texts, `specs/Signs` says it by how they are written: `Token::value`
-- ensures both.
use Rattle.std.specs.Prelude.{ℕ, ◌+◌, ◌*◌, ◌-◌, min, ◌==◌, List, [], ◌∷◌, ◌++◌, length, take, drop, Option, Some}
use Rattle.std.specs.Prelude.{None, unwrap_or, if◌then◌else◌}
use Rattle.bicep_lexer.specs.declared.kind.TokenKind.{TokenKind}
use Rattle.bicep_lexer.specs.declared.kind.TokenKind.TheVariants as k
use Rattle.bicep_lexer.specs.declared.value.Mode.{Mode}
use Rattle.bicep_lexer.specs.declared.value.Mode.TheVariants as mode
use Rattle.bicep_lexer.specs.Escapes.{hexadecimal, is_scalar, simple_escape}
use Rattle.bicep_lexer.specs.Skipped.{newline_length}

-- the number with one digit more, up to 2^32 - 1; a `{` is no digit
abbrev pub with_digit : ℕ → Option ℕ → ℕ
with_digit v None = v
with_digit v (Some d) = min (16 * v + d) 0xFFFF_FFFF

-- the character of a number, where it has one
abbrev pub character_of : ℕ → List ℕ
character_of v = if is_scalar v then v ∷ [] else []

-- the characters with each escape replaced by the character that it means
abbrev pub unescaped_from : Mode → List ℕ → List ℕ
unescaped_from m [] = []
unescaped_from mode.Plain (c ∷ cs) =
    if c == 92 then unescaped_from mode.Escaped cs else c ∷ unescaped_from mode.Plain cs
unescaped_from mode.Escaped (c ∷ cs) =
    if c == 117 then unescaped_from (mode.Braced 0) cs else unwrap_or (simple_escape c) c ∷ unescaped_from mode.Plain cs
unescaped_from (mode.Braced v) (c ∷ cs) =
    if c == 125 then character_of v ++ unescaped_from mode.Plain cs
    else unescaped_from (mode.Braced (with_digit v (hexadecimal c))) cs

abbrev pub unescaped : List ℕ → List ℕ
unescaped cs = unescaped_from mode.Plain cs

-- without the first `front` and the last `back` characters
abbrev pub inside : ℕ → ℕ → List ℕ → List ℕ
inside front back cs = take (length cs - (front + back)) (drop front cs)

-- without a first LF or CR LF
abbrev pub below_newline : List ℕ → List ℕ
below_newline cs = drop (newline_length cs) cs

-- what a token of these characters means: the characters of a text between its ends, after escapes; of a
-- verbatim text those between its three quotes, without a first newline; any other token means itself
abbrev pub value_of : TokenKind → List ℕ → List ℕ
value_of k.Text cs = unescaped (inside 1 1 cs)
value_of k.LeftPiece cs = unescaped (inside 1 2 cs)
value_of k.MiddlePiece cs = unescaped (inside 1 2 cs)
value_of k.RightPiece cs = unescaped (inside 1 1 cs)
value_of k.VerbatimText cs = below_newline (inside 3 3 cs)
value_of kind cs = cs
