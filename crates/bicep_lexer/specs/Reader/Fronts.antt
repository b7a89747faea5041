-- What is at the front of the rest of a source.
use Rattle.std.specs.Prelude.{ℕ, ◌+◌, ◌^◌, false, ◌==◌, nat_lt, not, List, [], ◌∷◌, length, take, drop, Option}
use Rattle.std.specs.Prelude.{Some, None, Result, Ok, Err, if◌then◌else◌}
use Rattle.std.specs.Char.{is_ascii_digit}
use Rattle.bicep_lexer.specs.declared.kind.TokenKind.{TokenKind}
use Rattle.bicep_lexer.specs.declared.kind.TokenKind.TheVariants as k
use Rattle.bicep_lexer.specs.declared.fault.LexFault.{LexFault}
use Rattle.bicep_lexer.specs.declared.fault.LexFault.TheVariants as fault
use Rattle.bicep_lexer.specs.declared.front.Open.{Open}
use Rattle.bicep_lexer.specs.declared.front.Open.TheVariants as opened
use Rattle.bicep_lexer.specs.declared.front.Line.{Line}
use Rattle.bicep_lexer.specs.declared.front.Line.TheVariants as line
use Rattle.bicep_lexer.specs.declared.front.Turn.{Turn}
use Rattle.bicep_lexer.specs.declared.front.Turn.TheVariants as turn
use Rattle.bicep_lexer.specs.declared.front.Front.{Front}
use Rattle.bicep_lexer.specs.declared.front.Front.TheVariants as front
use Rattle.bicep_lexer.specs.declared.texts.PieceEnd.{PieceEnd}
use Rattle.bicep_lexer.specs.declared.texts.PieceEnd.TheVariants as ends
use Rattle.bicep_lexer.specs.Bytes.{is_letter, is_blank, number_from}
use Rattle.bicep_lexer.specs.Marks.{double_mark, single_mark}
use Rattle.bicep_lexer.specs.Skipped.{newline_length, line_after_comment, is_directive}
use Rattle.bicep_lexer.specs.Texts.{quotes}
use Rattle.bicep_lexer.specs.Grammar.{innermost, opens_comment}
use Rattle.bicep_lexer.specs.Faults.{unfinished}
use Rattle.bicep_lexer.specs.Reader.Scanning.{name_length, digits_of, line_length, comment_length, piece_end}
use Rattle.bicep_lexer.specs.Reader.Scanning.{verbatim_length}

-- a word of one kind, which opens and closes nothing
abbrev pub word : TokenKind → ℕ → Result Front LexFault
word kind n = Ok (front.Word kind n turn.Stays)

unfoldable pub number_front : ℕ → List ℕ → Result Front LexFault
number_front at bytes =
    if nat_lt (number_from 0 (digits_of bytes)) (2 ^ 63) then word k.Number (length (digits_of bytes))
    else Err (fault.BadNumber at)

-- a piece of the text whose opening quote is at `quote`; the piece begins at `at`, and after its first byte it has
-- this end
abbrev pub piece : ℕ → ℕ → List Open → TokenKind × Turn → TokenKind × Turn → PieceEnd → Result Front LexFault
piece quote at os last other (ends.Quote n) = Ok (front.Word last.0 (n + 1) last.1)
piece quote at os last other (ends.Hole n) = Ok (front.Word other.0 (n + 1) other.1)
piece quote at os last other ends.Line = Err (fault.OpenText quote)
piece quote at os last other ends.File = Err (unfinished os (fault.OpenText quote))
piece quote at os last other (ends.BadEscape n) = Err (fault.BadEscape (at + (n + 1)))

abbrev pub verbatim : ℕ → List Open → Option ℕ → Result Front LexFault
verbatim at os None = Err (unfinished os (fault.OpenText at))
verbatim at os (Some n) = word k.VerbatimText (n + 3)

-- a text, from its opening quote
unfoldable pub text_front : ℕ → List Open → List ℕ → Result Front LexFault
text_front at os bytes =
    if quotes 3 bytes == 3 then verbatim at os (verbatim_length (drop 3 bytes))
    else piece at at os (k.Text, turn.Stays) (k.LeftPiece, turn.Opens (opened.Text at)) (piece_end false (drop 1 bytes))

-- a `}`: it closes the last brace that is open, or continues a text
abbrev pub closed : ℕ → List Open → Option Open → List ℕ → Result Front LexFault
closed at os None bytes = word k.CloseBrace 1
closed at os (Some opened.Brace) bytes = Ok (front.Word k.CloseBrace 1 turn.Closes)
closed at os (Some (opened.Text quote)) bytes =
    piece quote at os (k.RightPiece, turn.Closes) (k.MiddlePiece, turn.Stays) (piece_end false (drop 1 bytes))

unfoldable pub close_front : ℕ → List Open → List ℕ → Result Front LexFault
close_front at os bytes = closed at os (innermost os) bytes

abbrev pub commented : ℕ → List Open → Line → List ℕ → Option ℕ → Result Front LexFault
commented at os l bytes None = Err (unfinished os (fault.OpenComment at))
commented at os l bytes (Some n) = Ok (front.Skipped (n + 2) (line_after_comment l (take n (drop 2 bytes))))

-- a comment, from its `/*`
unfoldable pub comment_front : ℕ → List Open → Line → List ℕ → Result Front LexFault
comment_front at os l bytes = commented at os l bytes (comment_length (drop 2 bytes))

-- a line end, which is skipped after another
abbrev pub newline_front : Line → ℕ → Result Front LexFault
newline_front line.Folded n = Ok (front.Skipped n line.Folded)
newline_front l n = Ok (front.Newline n)

-- a line whose first mark is `#disable-next-line`
abbrev pub directive_front : ℕ → Line → List ℕ → Result Front LexFault
directive_front at line.Within bytes = Err (fault.BadCharacter at)
directive_front at l bytes = if is_directive bytes then Ok (front.Skipped (line_length bytes) l)
    else Err (fault.BadCharacter at)

abbrev pub single : ℕ → Option TokenKind → Result Front LexFault
single at (Some kind) = word kind 1
single at None = Err (fault.BadCharacter at)

abbrev pub double : ℕ → ℕ → Option TokenKind → Result Front LexFault
double at b (Some kind) = word kind 2
double at b None = single at (single_mark b)

unfoldable pub mark_front : ℕ → List ℕ → Result Front LexFault
mark_front at [] = Err (fault.BadCharacter at)
mark_front at (b ∷ []) = single at (single_mark b)
mark_front at (b ∷ c ∷ bs) = double at b (double_mark b c)

-- the front of bytes at `at`, the first of which is b, where no blank, no name, no number and no text is
abbrev pub other_front : ℕ → List Open → Line → ℕ → List ℕ → Result Front LexFault
other_front at os l b bytes =
    if opens_comment 47 bytes then Ok (front.Skipped (line_length bytes) l)
    else if opens_comment 42 bytes then comment_front at os l bytes
    else if not (newline_length bytes == 0) then newline_front l (newline_length bytes)
    else if b == 35 then directive_front at l bytes
    else if b == 123 then Ok (front.Word k.OpenBrace 1 (turn.Opens opened.Brace))
    else if b == 125 then close_front at os bytes
    else mark_front at bytes

-- the front of bytes at `at`, the first of which is b
abbrev pub front_by : ℕ → List Open → Line → ℕ → List ℕ → Result Front LexFault
front_by at os l b bytes =
    if is_blank b then Ok (front.Skipped 1 l)
    else if is_letter b then word k.Name (name_length bytes)
    else if is_ascii_digit b then number_front at bytes
    else if b == 39 then text_front at os bytes
    else other_front at os l b bytes

unfoldable pub front_of : ℕ → List Open → Line → List ℕ → Result Front LexFault
front_of at os l [] = Err (fault.BadCharacter at)
front_of at os l (b ∷ bs) = front_by at os l b (b ∷ bs)
