-- Which texts of a template are expressions, and how a plain text is written (Microsoft Learn, "Template expressions",
-- escape characters).
use Rattle.std.specs.Prelude.{ℕ, ◌==◌, ◌&&◌, Bool, false, List, [], ◌∷◌, chars, if◌then◌else◌, Option, Some, None}
use Rattle.std.specs.Prelude.{bytes_eq, codes}
use Rattle.arm_expr.specs.declared.brackets.Meaning as meanings
use Rattle.arm_expr.specs.declared.brackets.Meaning.TheVariants as variant

-- whether the text begins with `[` (91)
abbrev pub opens : List ℕ → Bool
opens [] = false
opens (c ∷ cs) = c == 91

-- whether the text ends with `]` (93)
abbrev pub closes : List ℕ → Bool
closes [] = false
closes (c ∷ []) = c == 93
closes (c ∷ d ∷ cs) = closes (d ∷ cs)

-- whether the text is in brackets: it begins with `[` and ends with `]`
abbrev pub is_bracketed : List ℕ → Bool
is_bracketed t = opens t && closes t

-- what a text of a template means: an expression, which the text spells or fails to spell, or a plain text
pub data Meaning : Type 0 where
  an_expression : Meaning
  plain : List ℕ → Meaning

-- of a text in brackets: an expression, unless a second `[` follows the first; then the text without its first `[`
abbrev pub meaning_in_brackets : List ℕ → Meaning
meaning_in_brackets [] = an_expression
meaning_in_brackets (c ∷ cs) = if opens cs then plain cs else an_expression

-- of any text: a text that is not in brackets is itself
abbrev pub meaning : List ℕ → Meaning
meaning t = if is_bracketed t then meaning_in_brackets t else plain t

-- how a plain text is written: with a `[` more in front where it is in brackets
abbrev pub escaped : List ℕ → List ℕ
escaped t = if is_bracketed t then 91 ∷ t else t

-- the meaning that a value of the code is
abbrev pub meaning_view : meanings.Meaning → Meaning
meaning_view variant.Expression = an_expression
meaning_view (variant.Plain t) = plain (chars t.now)

abbrev pub without_last : List ℕ → List ℕ
without_last [] = []
without_last (c ∷ []) = []
without_last (c ∷ d ∷ cs) = c ∷ without_last (d ∷ cs)

abbrev pub inside : List ℕ → List ℕ
inside [] = []
inside (c ∷ cs) = without_last cs

abbrev pub plain_text : Meaning → Option (List ℕ)
plain_text an_expression = None
plain_text (plain t) = Some t

abbrev pub is_copy : List ℕ → Bool
is_copy name = bytes_eq name (codes "copy")
