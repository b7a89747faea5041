-- Format texts that are filled from the left: what was put, and what is still to come.
use Rattle.std.specs.Prelude.{ℕ, nat_lt, List, ◌++◌, length, Option, Some, None, option_map, option_and_then}
use Rattle.std.specs.Prelude.{if◌then◌else◌}
use Rattle.arm_value.specs.Json.{Json}
use Rattle.function_texts.specs.Numbers.{numeral}
use Rattle.function_prints.specs.Format.{Field, before_closing, filled_rest}

abbrev pub below : ℕ → ℕ → Option ℕ
below bound n = if nat_lt n bound then Some n else None

-- the number below the bound that the digits before the first `}` spell, and how many these are
abbrev pub number_before_closing : ℕ → List ℕ → Option (ℕ × ℕ)
number_before_closing bound cs =
    option_and_then (λ digits. option_map (λ n. (n, length digits)) (option_and_then (below bound) (numeral digits)))
    (before_closing cs)

-- a field after a text
abbrev pub put_after : List ℕ → Option Field → Option Field
put_after s o = option_map (λ f. (s ++ f.0, f.1)) o

-- a text that ends with a field, and how many characters belong to that
abbrev pub ending : List ℕ → Option ℕ → Option Field
ending s o = option_map (λ n. (s, n)) o

-- a text, and what is filled after it
abbrev pub filled_after : List ℕ → List Json → ℕ → List ℕ → Option (List ℕ)
filled_after front args taken cs = option_map (λ s. front ++ s) (filled_rest args taken cs)

-- the same where it is known how many characters belong to a field
abbrev pub filled_on : List ℕ → List Json → Option ℕ → List ℕ → Option (List ℕ)
filled_on front args next cs = option_and_then (λ n. filled_after front args n cs) next
