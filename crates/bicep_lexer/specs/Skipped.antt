-- Line ends, and what is skipped.
use Rattle.std.specs.Prelude.{ℕ, Bool, false, ◌==◌, ◌&&◌, ◌||◌, not, List, [], ◌∷◌, drop, if◌then◌else◌, nat_eq, codes}
use Rattle.std.specs.List.{list_any, starts_with}
use Rattle.bicep_lexer.specs.Bytes.{is_name_byte, begins_with}
use Rattle.bicep_lexer.specs.declared.front.Line.{Line}
use Rattle.bicep_lexer.specs.declared.front.Line.TheVariants as line

-- the length of the LF or the CR LF at the front, or 0
abbrev pub newline_length : List ℕ → ℕ
newline_length [] = 0
newline_length (b ∷ bs) = if b == 10 then 1 else if b == 13 && begins_with 10 bs then 2 else 0

-- whether the bytes begin with `*/`
abbrev pub closes_comment : List ℕ → Bool
closes_comment [] = false
closes_comment (b ∷ bs) = b == 42 && begins_with 47 bs

-- after a comment with an LF in it, no token is on the line yet
abbrev pub line_after_comment : Line → List ℕ → Line
line_after_comment line.Within comment = if list_any (λ b. b == 10) comment then line.Front else line.Within
line_after_comment l comment = l

-- whether the first byte makes a longer word of `#disable-next-line`
abbrev pub goes_on : List ℕ → Bool
goes_on [] = false
goes_on (b ∷ bs) = is_name_byte b || b == 45

-- whether the bytes begin with the word `#disable-next-line`
unfoldable pub is_directive : List ℕ → Bool
is_directive bytes = starts_with nat_eq bytes (codes "#disable-next-line") && not (goes_on (drop 18 bytes))
