-- Which faults a source has.
use Rattle.std.specs.Prelude.{◌≡◌, ◌≢◌, ℕ, ◌+◌, ◌≤◌, ◌^◌, true, false, ◌==◌, List, [], ◌∷◌, ◌++◌, length, Option}
use Rattle.std.specs.Prelude.{Some, None, ◌⊎◌}
use Rattle.std.specs.Char.{is_ascii_digit}
use Rattle.bicep_lexer.specs.declared.fault.LexFault.{LexFault}
use Rattle.bicep_lexer.specs.declared.fault.LexFault.TheVariants as fault
use Rattle.bicep_lexer.specs.declared.front.Open.{Open}
use Rattle.bicep_lexer.specs.declared.front.Open.TheVariants as opened
use Rattle.bicep_lexer.specs.declared.front.Line.{Line}
use Rattle.bicep_lexer.specs.declared.front.Line.TheVariants as line
use Rattle.bicep_lexer.specs.Bytes.{is_letter, is_blank, number_from}
use Rattle.bicep_lexer.specs.Marks.{single_mark}
use Rattle.bicep_lexer.specs.Signs.{IsInside, BeginsEscape}
use Rattle.bicep_lexer.specs.Skipped.{closes_comment, is_directive}
use Rattle.bicep_lexer.specs.Texts.{is_break, quotes}
use Rattle.bicep_lexer.specs.Grammar.{outermost, innermost, opens_comment, Throughout, IsRun, ends_line, three_quotes}
use Rattle.bicep_lexer.specs.Grammar.{makes_double, Part, StandsBefore}

-- the fault where the file ends: at the outermost text that is open, else as given
abbrev pub unfinished_by : Option ℕ → LexFault → LexFault
unfinished_by None f = f
unfinished_by (Some at) f = fault.OpenText at

unfoldable pub unfinished : List Open → LexFault → LexFault
unfinished os f = unfinished_by (outermost os) f

-- the byte begins a piece of the text whose opening quote is at `quote`: it is that quote, and does not
-- open a verbatim text, or it is the `}` of what was opened last
abbrev pub BeginsPiece : List Open → ℕ → ℕ → List ℕ → ℕ → Type 0
BeginsPiece os at b bytes quote =
    ((b ≡ 39) × (quote ≡ at) × (quotes 3 bytes == 3 ≡ false)) ⊎ ((b ≡ 125) × (innermost os ≡ Some (opened.Text quote)))

-- no word begins at these bytes, and nothing that is skipped
pub record BeginsNothing (l : Line) (first : ℕ) (bytes : List ℕ) : Type 0 where
  pub no_blank : is_blank first ≡ false
  pub no_letter : is_letter first ≡ false
  pub no_digit : is_ascii_digit first ≡ false
  pub no_quote : first == 39 ≡ false
  pub no_line_comment : opens_comment 47 bytes ≡ false
  pub no_comment : opens_comment 42 bytes ≡ false
  pub no_line_end : ends_line bytes ≡ false
  pub no_directive : first ≡ 35 → l ≢ line.Within → is_directive bytes ≡ false
  pub no_open_brace : first == 123 ≡ false
  pub no_close_brace : first == 125 ≡ false
  pub no_mark : single_mark first ≡ None

-- A fault at the front of the rest of a source, at its place.
pub data IsFault (os : List Open) (l : Line) (at : ℕ) (bytes : List ℕ) (f : LexFault) : Type 0 where
  -- the file ends where a text is open: at the outermost
  open_at_end : bytes ≡ [] → (quote : ℕ) → outermost os ≡ Some quote → f ≡ fault.OpenText quote
      → IsFault os l at bytes f
  -- digits, as many as there are, of a number from 2^63 on
  bad_number : (first : ℕ) (others rest : List ℕ) → bytes ≡ first ∷ (others ++ rest)
      → IsRun is_ascii_digit (first ∷ others) rest → 2 ^ 63 ≤ number_from 0 (first ∷ others) → f ≡ fault.BadNumber at
      → IsFault os l at bytes f
  -- a piece of a text comes to a `\` that begins no escape
  bad_escape : (b quote : ℕ) (inside rest : List ℕ) → BeginsPiece os at b bytes quote
      → bytes ≡ b ∷ (inside ++ 92 ∷ rest) → IsInside inside → ¬ BeginsEscape (92 ∷ rest)
      → f ≡ fault.BadEscape (at + (length inside + 1)) → IsFault os l at bytes f
  -- a piece of a text comes to the line's end
  open_at_line : (b quote : ℕ) (inside : List ℕ) (end : ℕ) (rest : List ℕ) → BeginsPiece os at b bytes quote
      → bytes ≡ b ∷ (inside ++ end ∷ rest) → IsInside inside → is_break end ≡ true
      → f ≡ fault.OpenText quote → IsFault os l at bytes f
  -- a piece of a text, a verbatim text or a comment comes to the file's end: the fault is at the outermost open text
  open_at_file : (b quote : ℕ) (inside : List ℕ) → BeginsPiece os at b bytes quote → bytes ≡ b ∷ inside
      → IsInside inside → f ≡ unfinished os (fault.OpenText quote) → IsFault os l at bytes f
  open_verbatim : (inside : List ℕ) → bytes ≡ 39 ∷ 39 ∷ 39 ∷ inside → Throughout three_quotes false inside []
      → f ≡ unfinished os (fault.OpenText at) → IsFault os l at bytes f
  open_comment : (inside : List ℕ) → bytes ≡ 47 ∷ 42 ∷ inside → Throughout closes_comment false inside []
      → f ≡ unfinished os (fault.OpenComment at) → IsFault os l at bytes f
  -- a byte at which no word begins, and nothing that is skipped
  bad_character : (first : ℕ) (others : List ℕ) → bytes ≡ first ∷ others → BeginsNothing l first bytes
      → makes_double first others ≡ false → f ≡ fault.BadCharacter at → IsFault os l at bytes f

-- the source is parts in a row up to a place where the fault is
abbrev pub Refuses : List ℕ → LexFault → Type 0
Refuses source f = (mark : List ℕ) × (ps : List Part) × (rest : List ℕ)
    × StandsBefore source rest mark ps (λ os l at. IsFault os l at rest f)
