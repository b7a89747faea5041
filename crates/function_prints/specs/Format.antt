-- Format texts (Microsoft Learn: ARM template functions, string: `format`).
use Rattle.std.specs.Prelude.{ℕ, zero, suc, ◌==◌, ◌||◌, Bool, List, [], ◌∷◌, ◌++◌, length, slice_get, Option, Some}
use Rattle.std.specs.Prelude.{None, option_map, option_and_then, if◌then◌else◌}
use Rattle.arm_value.specs.Json.{Json, text}
use Rattle.function_texts.specs.Kinds.{text_of}
use Rattle.function_texts.specs.Numbers.{numeral}
use Rattle.function_prints.specs.Printed.{printed}

-- what a brace means, and how many of the characters after it belong to it
abbrev pub Field : Type 0
Field = List ℕ × ℕ

-- the characters before the first `}`, where there is one
unfoldable pub before_closing : List ℕ → Option (List ℕ)
before_closing [] = None
before_closing (c ∷ cs) = if c == 125 then Some [] else option_map (λ s. c ∷ s) (before_closing cs)

-- the argument whose number, counted from 0, the digits spell
abbrev pub argument : List Json → List ℕ → Option Json
argument args digits = option_and_then (slice_get args) (numeral digits)

-- after a `{`: the printed form of the argument whose number is before the first `}`
abbrev pub argument_field : List Json → List ℕ → Option Field
argument_field args cs =
    option_and_then (λ digits. option_map (λ j. (printed j, suc (length digits))) (argument args digits))
    (before_closing cs)

-- after a brace: one brace for two alike, or the printed form of an argument for its number in braces
abbrev pub field : List Json → ℕ → List ℕ → Option Field
field args brace [] = None
field args brace (c ∷ cs) = if c == brace then Some (brace ∷ [], 1) else if brace == 123
    then argument_field args (c ∷ cs) else None

abbrev pub is_brace : ℕ → Bool
is_brace c = c == 123 || c == 125

-- the text with its fields filled, after so many characters that belong to a field
unfoldable pub filled_rest : List Json → ℕ → List ℕ → Option (List ℕ)
filled_rest args taken [] = Some []
filled_rest args (suc n) (c ∷ cs) = filled_rest args n cs
filled_rest args zero (c ∷ cs) =
    if is_brace c then option_and_then (λ f. option_map (λ rest. f.0 ++ rest) (filled_rest args f.1 cs))
    (field args c cs)
    else option_map (λ rest. c ∷ rest) (filled_rest args 0 cs)

-- the text with its fields filled; none where a brace begins no field
abbrev pub filled : List Json → List ℕ → Option (List ℕ)
filled args s = filled_rest args 0 s

-- `format`: the first argument, a text, with its fields filled by the others
abbrev pub format_by : Json → List Json → Option Json
format_by j args = option_and_then (λ s. option_map text (filled args s)) (text_of j)

abbrev pub format : List Json → Option Json
format [] = None
format (j ∷ js) = format_by j js
