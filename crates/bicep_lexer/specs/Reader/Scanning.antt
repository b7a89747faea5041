-- How far words, lines, comments, escapes and texts reach.
use Rattle.std.specs.Prelude.{ℕ, zero, suc, ◌+◌, ◌*◌, Bool, true, false, ◌==◌, ◌||◌, ◌&&◌, not, nat_le, List, [], ◌∷◌}
use Rattle.std.specs.Prelude.{length, drop, take_while, Option, Some, None, is_some, option_map, option_and_then}
use Rattle.std.specs.Prelude.{if◌then◌else◌}
use Rattle.std.specs.Char.{is_ascii_digit}
use Rattle.bicep_lexer.specs.Bytes.{is_name_byte, begins_with}
use Rattle.bicep_lexer.specs.Escapes.{hexadecimal, is_scalar, simple_escape}
use Rattle.bicep_lexer.specs.Signs.{is_hole}
use Rattle.bicep_lexer.specs.Skipped.{newline_length, closes_comment}
use Rattle.bicep_lexer.specs.Texts.{is_break, quotes}
use Rattle.bicep_lexer.specs.declared.texts.PieceEnd.{PieceEnd}
use Rattle.bicep_lexer.specs.declared.texts.PieceEnd.TheVariants as ends

-- the length of the name at the front
unfoldable pub name_length : List ℕ → ℕ
name_length bytes = length (take_while is_name_byte bytes)

-- the decimal digits at the front
abbrev pub digits_of : List ℕ → List ℕ
digits_of bytes = take_while is_ascii_digit bytes

-- how many bytes the line still has
abbrev pub line_length : List ℕ → ℕ
line_length [] = 0
line_length (b ∷ bs) = if newline_length (b ∷ bs) == 0 then suc (line_length bs) else 0

-- how many bytes a comment still has, its `*/` included, or none where it is open
abbrev pub comment_length : List ℕ → Option ℕ
comment_length [] = None
comment_length (b ∷ bs) = if closes_comment (b ∷ bs) then Some 2 else option_map suc (comment_length bs)

-- the number that at most `digits` hexadecimal digits and a `}` write at the front, after digits of value v
abbrev pub closed_number : ℕ → ℕ → List ℕ → Option ℕ
closed_number digits v [] = None
closed_number zero v (b ∷ bs) = if b == 125 then Some v else None
closed_number (suc digits) v (b ∷ bs) =
    if b == 125 then Some v else option_and_then (λ d. closed_number digits (16 * v + d) bs) (hexadecimal b)

-- the number, where it is a Unicode scalar value
abbrev pub scalar_of : ℕ → Option ℕ
scalar_of v = if is_scalar v then Some v else None

-- the character of `{h}` at the front, with one to six hexadecimal digits
unfoldable pub braced_scalar : List ℕ → Option ℕ
braced_scalar bytes =
    if begins_with 123 bytes && not (begins_with 125 (drop 1 bytes))
    then option_and_then scalar_of (closed_number 6 0 (drop 1 bytes))
    else None

-- whether a `\` before these bytes begins an escape
unfoldable pub is_escape : List ℕ → Bool
is_escape [] = false
is_escape (b ∷ bs) = is_some (simple_escape b) || (b == 117 && is_some (braced_scalar bs))

-- an end that is n bytes further on
abbrev pub further : ℕ → PieceEnd → PieceEnd
further n (ends.Quote m) = ends.Quote (n + m)
further n (ends.Hole m) = ends.Hole (n + m)
further n ends.Line = ends.Line
further n ends.File = ends.File
further n (ends.BadEscape m) = ends.BadEscape (n + m)

-- how many bytes an end counts
abbrev pub counted : PieceEnd → ℕ
counted (ends.Quote n) = n
counted (ends.Hole n) = n
counted ends.Line = 0
counted ends.File = 0
counted (ends.BadEscape n) = n

-- how a piece of a text in single quotes ends; `escaped`: the first byte follows a `\`
abbrev pub piece_end : Bool → List ℕ → PieceEnd
piece_end escaped [] = ends.File
piece_end true (b ∷ bs) = further 1 (piece_end false bs)
piece_end false (b ∷ bs) =
    if b == 39 then ends.Quote 1
    else if is_hole b bs then ends.Hole 2
    else if is_break b then ends.Line
    else if b == 92 then (if is_escape bs then further 1 (piece_end true bs) else ends.BadEscape 0)
    else further 1 (piece_end false bs)

-- how many bytes a verbatim text still has, its last three quotes and up to two before them included,
-- or none where it is open
abbrev pub verbatim_length : List ℕ → Option ℕ
verbatim_length [] = None
verbatim_length (b ∷ bs) = if nat_le 3 (quotes 5 (b ∷ bs)) then Some (quotes 5 (b ∷ bs))
    else option_map suc (verbatim_length bs)
