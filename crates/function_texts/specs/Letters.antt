-- The functions on the letters and ends of texts (Microsoft Learn: ARM template functions, string).
use Rattle.std.specs.Prelude.{ℕ, nat_le, nat_lt, ◌==◌, ◌&&◌, ◌||◌, Bool, List, [], ◌∷◌, map, Option, option_map}
use Rattle.std.specs.Prelude.{if◌then◌else◌}
use Rattle.std.specs.Char.{to_ascii_lowercase, to_ascii_uppercase}
use Rattle.arm_value.specs.Json.{Json, text}
use Rattle.function_numbers.specs.Kinds.{text_of, of_one}
use Rattle.function_texts.specs.declared.letters.Case.{Case}
use Rattle.function_texts.specs.declared.letters.Case.TheVariants.{Small, Capital}

-- a character with its ASCII letter small or capital
abbrev pub cased : Case → ℕ → ℕ
cased Small c = to_ascii_lowercase c
cased Capital c = to_ascii_uppercase c

-- `toLower`
abbrev pub to_lower : List Json → Option Json
to_lower args = of_one (λ j. option_map (λ s. text (map (cased Small) s)) (text_of j)) args

-- `toUpper`
abbrev pub to_upper : List Json → Option Json
to_upper args = of_one (λ j. option_map (λ s. text (map (cased Capital) s)) (text_of j)) args

-- U+0009 to U+000D, and U+0020
abbrev pub is_blank : ℕ → Bool
is_blank c = (nat_le 9 c && nat_lt c 14) || (c == 32)

-- the characters without blanks at their front
unfoldable pub without_blanks : List ℕ → List ℕ
without_blanks [] = []
without_blanks (c ∷ cs) = if is_blank c then without_blanks cs else c ∷ cs

-- a character before others, unless it is blank and there are none
abbrev pub before_blanks : ℕ → List ℕ → List ℕ
before_blanks c [] = if is_blank c then [] else c ∷ []
before_blanks c (d ∷ ds) = c ∷ d ∷ ds

-- the characters without blanks at their end
unfoldable pub up_to_blanks : List ℕ → List ℕ
up_to_blanks [] = []
up_to_blanks (c ∷ cs) = before_blanks c (up_to_blanks cs)

abbrev pub trim : List Json → Option Json
trim args = of_one (λ j. option_map (λ s. text (up_to_blanks (without_blanks s))) (text_of j)) args
