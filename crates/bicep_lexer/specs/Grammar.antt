-- Which sources spell which tokens: a source is words and what is skipped, in a row.
use Rattle.std.specs.Prelude.{◌≡◌, ◌≢◌, ℕ, ◌+◌, ◌-◌, ◌<◌, ◌≤◌, ◌^◌, Bool, true, false, nat_le, nat_eq, not, ◌==◌}
use Rattle.std.specs.Prelude.{◌&&◌, List, [], ◌∷◌, ◌++◌, length, take, drop, slice_get, Option, Some, None, is_some}
use Rattle.std.specs.Prelude.{◌⊎◌, if◌then◌else◌}
use Rattle.std.specs.Char.{is_ascii_digit}
use Rattle.std.specs.List.{starts_with}
use Rattle.bicep_lexer.specs.declared.kind.TokenKind.{TokenKind}
use Rattle.bicep_lexer.specs.declared.kind.TokenKind.TheVariants as k
use Rattle.bicep_lexer.specs.declared.front.Open.{Open}
use Rattle.bicep_lexer.specs.declared.front.Open.TheVariants as opened
use Rattle.bicep_lexer.specs.declared.front.Line.{Line}
use Rattle.bicep_lexer.specs.declared.front.Line.TheVariants as line
use Rattle.bicep_lexer.specs.declared.front.Turn.{Turn}
use Rattle.bicep_lexer.specs.declared.front.Turn.TheVariants as turn
use Rattle.bicep_lexer.specs.Bytes.{is_letter, is_name_byte, is_blank, begins_with, number_from}
use Rattle.bicep_lexer.specs.Marks.{double_mark, single_mark}
use Rattle.bicep_lexer.specs.Signs.{IsInside, IsText, IsSigned}
use Rattle.bicep_lexer.specs.Skipped.{newline_length, closes_comment, line_after_comment, is_directive}
use Rattle.bicep_lexer.specs.Texts.{quotes}
use Rattle.bicep_lexer.specs.Reading.{Standing}

-- the length of the byte order mark at the front, or 0
unfoldable pub mark_length : List ℕ → ℕ
mark_length bytes = if starts_with nat_eq bytes (239 ∷ 187 ∷ 191 ∷ []) then 3 else 0

-- the opening quote of the outermost text that is open
abbrev pub outermost : List Open → Option ℕ
outermost [] = None
outermost (opened.Brace ∷ os) = outermost os
outermost (opened.Text at ∷ os) = Some at

-- what was opened last
abbrev pub innermost : List Open → Option Open
innermost os = slice_get os (length os - 1)

-- what is open after a token
abbrev pub turned : Turn → List Open → List Open
turned turn.Stays os = os
turned (turn.Opens o) os = os ++ o ∷ []
turned turn.Closes os = take (length os - 1) os

-- whether the bytes begin with `/` and then this byte
abbrev pub opens_comment : ℕ → List ℕ → Bool
opens_comment second [] = false
opens_comment second (b ∷ bs) = b == 47 && begins_with second bs

-- at each byte of a word before `rest` the test gives this answer of all that is left there
abbrev pub Throughout : (List ℕ → Bool) → Bool → List ℕ → List ℕ → Type 0
Throughout test answer [] rest = Unit {0}
Throughout test answer (b ∷ word) rest = (test (b ∷ (word ++ rest)) ≡ answer) × Throughout test answer word rest

-- whether the first byte passes
abbrev pub begins : (ℕ → Bool) → List ℕ → Bool
begins test [] = false
begins test (b ∷ bs) = test b

-- the longest word of such bytes
abbrev pub IsRun : (ℕ → Bool) → List ℕ → List ℕ → Type 0
IsRun test word rest = Throughout (begins test) true word rest × (begins test rest ≡ false)

-- whether the bytes begin with a line end
abbrev pub ends_line : List ℕ → Bool
ends_line bytes = not (newline_length bytes == 0)

-- all that the line still has
abbrev pub IsLine : List ℕ → List ℕ → Type 0
IsLine word rest = Throughout ends_line false word rest × ((rest ≡ []) ⊎ (ends_line rest ≡ true))

-- whether the bytes begin with three quotes
abbrev pub three_quotes : List ℕ → Bool
three_quotes bytes = nat_le 3 (quotes 5 bytes)

-- LF or CR LF
abbrev pub IsLineEnd : List ℕ → Type 0
IsLineEnd word = (word ≡ 10 ∷ []) ⊎ (word ≡ 13 ∷ 10 ∷ [])

-- whether the byte makes a mark of two with the first of the rest
abbrev pub makes_double : ℕ → List ℕ → Bool
makes_double b [] = false
makes_double b (c ∷ rest) = is_some (double_mark b c)

-- A word of a kind at a place, before the rest, and what it opens or closes.
pub data IsWord (os : List Open) (l : Line) (at : ℕ) (kind : TokenKind) (word rest : List ℕ) (t : Turn) : Type 0 where
  -- a letter, and then as many bytes of a name as there are
  name : kind ≡ k.Name → t ≡ turn.Stays → (first : ℕ) (others : List ℕ) → word ≡ first ∷ others
      → is_letter first ≡ true → IsRun is_name_byte word rest → IsWord os l at kind word rest t
  -- as many digits as there are
  number : kind ≡ k.Number → t ≡ turn.Stays → (first : ℕ) (others : List ℕ) → word ≡ first ∷ others
      → IsRun is_ascii_digit word rest → number_from 0 word < 2 ^ 63 → IsWord os l at kind word rest t
  -- the first line end after a token
  newline : kind ≡ k.Newline → t ≡ turn.Stays → l ≢ line.Folded → IsLineEnd word → IsWord os l at kind word rest t
  -- a text without interpolation, or its first, a middle or its last piece; between its ends it is written by signs
  text : kind ≡ k.Text → t ≡ turn.Stays → (inside : List ℕ) → word ≡ 39 ∷ (inside ++ 39 ∷ [])
      → IsInside inside → quotes 3 (word ++ rest) == 3 ≡ false → IsWord os l at kind word rest t
  left : kind ≡ k.LeftPiece → t ≡ turn.Opens (opened.Text at) → (inside : List ℕ)
      → word ≡ 39 ∷ (inside ++ 36 ∷ 123 ∷ []) → IsInside inside → quotes 3 (word ++ rest) == 3 ≡ false
      → IsWord os l at kind word rest t
  middle : kind ≡ k.MiddlePiece → t ≡ turn.Stays → (quote : ℕ) → innermost os ≡ Some (opened.Text quote)
      → (inside : List ℕ) → word ≡ 125 ∷ (inside ++ 36 ∷ 123 ∷ []) → IsInside inside
      → IsWord os l at kind word rest t
  right : kind ≡ k.RightPiece → t ≡ turn.Closes → (quote : ℕ) → innermost os ≡ Some (opened.Text quote)
      → (inside : List ℕ) → word ≡ 125 ∷ (inside ++ 39 ∷ []) → IsInside inside
      → IsWord os l at kind word rest t
  -- three quotes, no three quotes, and then three to five of them, as many as there are
  verbatim : kind ≡ k.VerbatimText → t ≡ turn.Stays → (inside closing : List ℕ)
      → word ≡ 39 ∷ 39 ∷ 39 ∷ (inside ++ closing) → Throughout three_quotes false inside (closing ++ rest)
      → length closing ≡ quotes 5 (closing ++ rest) → 3 ≤ length closing → IsWord os l at kind word rest t
  -- a brace; a `}` where a text was opened last is none
  open_brace : kind ≡ k.OpenBrace → t ≡ turn.Opens opened.Brace → word ≡ 123 ∷ [] → IsWord os l at kind word rest t
  close_brace : kind ≡ k.CloseBrace → t ≡ turn.Closes → innermost os ≡ Some opened.Brace → word ≡ 125 ∷ []
      → IsWord os l at kind word rest t
  lone_brace : kind ≡ k.CloseBrace → t ≡ turn.Stays → innermost os ≡ None → word ≡ 125 ∷ []
      → IsWord os l at kind word rest t
  -- a mark of two bytes, or of one that makes none with the next and begins no comment
  double : t ≡ turn.Stays → (first second : ℕ) → word ≡ first ∷ second ∷ [] → double_mark first second ≡ Some kind
      → IsWord os l at kind word rest t
  single : t ≡ turn.Stays → (first : ℕ) → word ≡ first ∷ [] → single_mark first ≡ Some kind
      → makes_double first rest ≡ false → opens_comment 47 (first ∷ rest) ≡ false
      → opens_comment 42 (first ∷ rest) ≡ false → IsWord os l at kind word rest t

-- What is skipped before the rest, and what is on the line after it.
pub data IsSkipped (l : Line) (word rest : List ℕ) (next : Line) : Type 0 where
  -- a space or a tab
  blank : next ≡ l → (b : ℕ) → is_blank b ≡ true → word ≡ b ∷ [] → IsSkipped l word rest next
  -- `//` and the rest of the line
  line_comment : next ≡ l → (others : List ℕ) → word ≡ 47 ∷ 47 ∷ others → IsLine word rest → IsSkipped l word rest next
  -- `/*` up to the first `*/`
  comment : (inside : List ℕ) → next ≡ line_after_comment l (inside ++ 42 ∷ 47 ∷ [])
      → word ≡ 47 ∷ 42 ∷ (inside ++ 42 ∷ 47 ∷ []) → Throughout closes_comment false inside (42 ∷ 47 ∷ rest)
      → IsSkipped l word rest next
  -- a line whose first mark is `#disable-next-line`
  directive : next ≡ l → l ≢ line.Within → (others : List ℕ) → word ≡ 35 ∷ others → is_directive (word ++ rest) ≡ true
      → IsLine word rest → IsSkipped l word rest next
  -- a line end after another
  folded : next ≡ line.Folded → l ≡ line.Folded → IsLineEnd word → IsSkipped l word rest next

-- a part of a source
pub data Part : Type 0 where
  skip : List ℕ → Line → Part
  token : TokenKind → List ℕ → Turn → Part

-- the bytes of parts in a row, and then the rest
abbrev pub bytes_of : List Part → List ℕ → List ℕ
bytes_of [] rest = rest
bytes_of (skip word l ∷ ps) rest = word ++ bytes_of ps rest
bytes_of (token kind word t ∷ ps) rest = word ++ bytes_of ps rest

-- the tokens of parts in a row, the first at `at`
abbrev pub tokens_of : ℕ → List Part → List Standing
tokens_of at [] = []
tokens_of at (skip word l ∷ ps) = tokens_of (at + length word) ps
tokens_of at (token kind word t ∷ ps) = (kind, at, word) ∷ tokens_of (at + length word) ps

-- what is on the line after a token
abbrev pub line_after_token : TokenKind → Line
line_after_token k.Newline = line.Folded
line_after_token kind = line.Within

-- The parts are in a row before the rest, each is what it may be at its place, and after them `Then` holds.
abbrev pub InARow : (List Open → Line → ℕ → Type 0) → List ℕ → List Open → Line → ℕ → List Part → Type 0
InARow Then rest os l at [] = Then os l at
InARow Then rest os l at (skip word next ∷ ps) =
    IsSkipped l word (bytes_of ps rest) next × InARow Then rest os next (at + length word) ps
InARow Then rest os l at (token kind word t ∷ ps) =
    IsWord os l at kind word (bytes_of ps rest) t
    × InARow Then rest (turned t os) (line_after_token kind) (at + length word) ps

-- The source is a byte order mark, if it has one, parts in a row and the rest, and between the parts and the rest
-- `Then` holds.
pub record StandsBefore (source rest : List ℕ) (mark : List ℕ) (ps : List Part) (Then : List Open → Line → ℕ
    → Type 0) : Type 0 where
  pub is : source ≡ mark ++ bytes_of ps rest
  pub is_mark : length mark ≡ mark_length source
  pub row : InARow Then rest [] line.Front (length mark) ps

-- no text is open
abbrev pub NoneIsOpen : List Open → Line → ℕ → Type 0
NoneIsOpen os l at = outermost os ≡ None

-- the source is parts in a row with these tokens, and no text is open at its end
abbrev pub Spells : List ℕ → List Standing → Type 0
Spells source tokens =
    (mark : List ℕ) × (ps : List Part) × StandsBefore source [] mark ps NoneIsOpen
    × (tokens ≡ tokens_of (length mark) ps)

-- each token is the slice of the source at its place, none is empty, and each begins after the one before
abbrev pub AreSlices : List ℕ → ℕ → List Standing → Type 0
AreSlices source from [] = Unit {0}
AreSlices source from (t ∷ ts) = (from ≤ t.1) × (0 < length t.2) × (t.2 ≡ take (length t.2) (drop t.1 source))
    × AreSlices source (t.1 + length t.2) ts

-- each text in single quotes, and each piece of one, is written by signs
abbrev pub AreSigned : List Standing → Type 0
AreSigned [] = Unit {0}
AreSigned (t ∷ ts) = (IsText t.0 → IsSigned t.0 t.2) × AreSigned ts
