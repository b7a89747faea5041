-- The reading of a source, front by front: its tokens, or its first fault.
use Rattle.std.specs.Prelude.{ℕ, zero, suc, ◌+◌, ◌-◌, ◌<◌, ◌≤◌, List, [], ◌∷◌, ◌++◌, length, take, drop, slice_index}
use Rattle.std.specs.Prelude.{Option, Some, None, Result, Ok, Err}
use Rattle.bicep_lexer.specs.declared.kind.TokenKind.TheVariants as k
use Rattle.bicep_lexer.specs.declared.fault.LexFault.{LexFault}
use Rattle.bicep_lexer.specs.declared.fault.LexFault.TheVariants as fault
use Rattle.bicep_lexer.specs.declared.front.Open.{Open}
use Rattle.bicep_lexer.specs.declared.front.Line.{Line}
use Rattle.bicep_lexer.specs.declared.front.Line.TheVariants as line
use Rattle.bicep_lexer.specs.declared.front.Front.{Front}
use Rattle.bicep_lexer.specs.declared.front.Front.TheVariants as front
use Rattle.bicep_lexer.specs.Reading.{Standing}
use Rattle.bicep_lexer.specs.Grammar.{outermost, turned, mark_length}
use Rattle.bicep_lexer.specs.Reader.Fronts.{front_of}

-- the tokens of a source, or its first fault
abbrev pub Outcome : Type 0
Outcome = Result (List Standing) LexFault

-- a token before those of the rest
abbrev pub before : Standing → Outcome → Outcome
before t (Ok ts) = Ok (t ∷ ts)
before t (Err f) = Err f

-- what is at the front, and then the rest, which is read from a number of bytes after the first byte
abbrev pub follow : ℕ → List Open → List ℕ → Result Front LexFault → (ℕ → List Open → Line → Outcome) → Outcome
follow at os bytes (Err f) rest = Err f
follow at os bytes (Ok (front.Skipped n l)) rest = rest (n - 1) os l
follow at os bytes (Ok (front.Newline n)) rest = before (k.Newline, at, take n bytes) (rest (n - 1) os line.Folded)
follow at os bytes (Ok (front.Word kind n t)) rest =
    before (kind, at, take n bytes) (rest (n - 1) (turned t os) line.Within)

-- at the end no text may be open
abbrev pub ended_by : Option ℕ → Outcome
ended_by None = Ok []
ended_by (Some at) = Err (fault.OpenText at)

abbrev pub ended : List Open → Outcome
ended os = ended_by (outermost os)

-- the reading of the rest at `at`, after its first n bytes
abbrev pub reading_from : ℕ → ℕ → List Open → Line → List ℕ → Outcome
reading_from n at os l [] = ended os
reading_from zero at os l (b ∷ bs) =
    follow at os (b ∷ bs) (front_of at os l (b ∷ bs)) (λ n os' l'. reading_from n (at + 1) os' l' bs)
reading_from (suc n) at os l (b ∷ bs) = reading_from n (at + 1) os l bs

-- the reading of a source
unfoldable pub reading : List ℕ → Outcome
reading bytes = reading_from (mark_length bytes) 0 [] line.Front bytes

-- the tokens found, and then those of the rest
abbrev pub then_rest : List Standing → Outcome → Outcome
then_rest found (Ok rest) = Ok (found ++ rest)
then_rest found (Err f) = Err f

-- the reading of the whole, from what was found and the rest
abbrev pub whole : List ℕ → ℕ → List Open → Line → List Standing → Outcome
whole text at os l found = then_rest found (reading_from 0 at os l (drop at text))

-- n bytes at the front that begin and end with a byte of ASCII, so that they are a text
pub record IsSpan (count : ℕ) (bytes : List ℕ) : Type 0 where
  pub some : 0 < count
  pub within : count ≤ length bytes
  pub first : slice_index bytes 0 < 128
  pub last : slice_index bytes (count - 1) < 128

-- a front has at least one byte, and no more bytes than the rest has
abbrev pub OnFront : Result Front LexFault → List ℕ → Type 0
OnFront (Err f) bytes = Unit {0}
OnFront (Ok (front.Skipped n l)) bytes = (0 < n) × (n ≤ length bytes)
OnFront (Ok (front.Newline n)) bytes = IsSpan n bytes
OnFront (Ok (front.Word k n t)) bytes = IsSpan n bytes
