-- The functions on numbers (Microsoft Learn: ARM template functions, numeric).
use Rattle.std.specs.Prelude.{ℕ, zero, suc, ◌+◌, ◌*◌, ◌-◌, ◌^◌, ◌&&◌, ◌==◌, nat_lt, nat_le, ℤ, pos, negsuc, ◌+ℤ◌}
use Rattle.std.specs.Prelude.{◌-ℤ◌, ◌*ℤ◌, neg_ℤ, int_div, int_rem, int_le, unsigned_abs, Bool, false, List, [], ◌∷◌}
use Rattle.std.specs.Prelude.{length, Option, Some, None, option_map, option_and_then, unwrap_or, if◌then◌else◌}
use Rattle.std.specs.Int.{int_min, int_max}
use Rattle.std.specs.List.{fold}
use Rattle.function_numbers.specs.declared.extremes.Extreme.{Extreme}
use Rattle.function_numbers.specs.declared.extremes.Extreme.TheVariants.{Least, Greatest}
use Rattle.arm_value.specs.Json.{Json, int, text, array, row}
use Rattle.function_numbers.specs.Kinds.{number_of, items_of, numbers_in, of_one}

-- whether a number has at most 64 bits
abbrev pub has_64_bits : ℤ → Bool
has_64_bits (pos n) = nat_lt n (2 ^ 63)
has_64_bits (negsuc n) = nat_lt n (2 ^ 63)

-- the number, where it has at most 64 bits
abbrev pub within : ℤ → Option ℤ
within z = if has_64_bits z then Some z else None

abbrev pub is_zero : ℤ → Bool
is_zero (pos n) = n == 0
is_zero (negsuc n) = false

-- the two numbers that these are
abbrev pub two_numbers : List Json → Option (ℤ × ℤ)
two_numbers (j ∷ k ∷ []) = option_and_then (λ x. option_map (λ y. (x, y)) (number_of k)) (number_of j)
two_numbers _ = None

-- what a function of two numbers gives
abbrev pub of_numbers : (ℤ → ℤ → Option ℤ) → List Json → Option Json
of_numbers f args = option_map int (option_and_then (λ p. f p.0 p.1) (two_numbers args))

abbrev pub add : List Json → Option Json
add args = of_numbers (λ x y. within (x +ℤ y)) args

abbrev pub sub : List Json → Option Json
sub args = of_numbers (λ x y. within (x -ℤ y)) args

abbrev pub mul : List Json → Option Json
mul args = of_numbers (λ x y. within (x *ℤ y)) args

-- the quotient cut toward zero
abbrev pub quotient : ℤ → ℤ → Option ℤ
quotient x y = if is_zero y then None else within (int_div x y)

abbrev pub div : List Json → Option Json
div args = of_numbers quotient args

-- what is left of x after its quotient, with the sign of x
abbrev pub rest_of : ℤ → ℤ → Option ℤ
rest_of x y = if is_zero y then None else Some (int_rem x y)

-- `mod`
abbrev pub remainder : List Json → Option Json
remainder args = of_numbers rest_of args

-- the better of two numbers
abbrev pub better : Extreme → ℤ → ℤ → ℤ
better Least x y = int_min x y
better Greatest x y = int_max x y

-- the best of these numbers, by what the better of two is; none of no numbers
abbrev pub best : (ℤ → ℤ → ℤ) → List ℤ → Option ℤ
best better [] = None
best better (z ∷ zs) = Some (fold better z zs)

-- the arguments, or the items of a lone argument that is an array
abbrev pub compared : List Json → List Json
compared (j ∷ []) = unwrap_or (items_of j) (j ∷ [])
compared args = args

-- the best of the arguments, or of the items of a lone argument that is an array
abbrev pub best_of : (ℤ → ℤ → ℤ) → List Json → Option Json
best_of better args = option_map int (option_and_then (best better) (numbers_in (compared args)))

abbrev pub min : List Json → Option Json
min args = best_of (better Least) args

abbrev pub max : List Json → Option Json
max args = best_of (better Greatest) args

-- whether a character is a digit, `0` to `9`
abbrev pub is_digit : ℕ → Bool
is_digit c = nat_le 48 c && nat_lt c 58

-- the number that is spelled by the digits of n and one more
abbrev pub with_digit : ℕ → ℕ → Option ℕ
with_digit n c = if is_digit c then Some (n * 10 + (c - 48)) else None

-- the number that is spelled by the digits of n and these; none where one is no digit
unfoldable pub read_on : ℕ → List ℕ → Option ℕ
read_on n [] = Some n
read_on n (c ∷ cs) = option_and_then (λ m. read_on m cs) (with_digit n c)

-- the number, where it is below 2 ^ 64
abbrev pub small : ℕ → Option ℕ
small n = if nat_lt n (2 ^ 64) then Some n else None

-- the number that digits spell, one at least
abbrev pub numeral : List ℕ → Option ℕ
numeral s = if length s == 0 then None else read_on 0 s

-- the characters after a `-` at the front
abbrev pub after_minus : List ℕ → Option (List ℕ)
after_minus [] = None
after_minus (c ∷ cs) = if c == 45 then Some cs else None

abbrev pub below_zero : ℕ → Option ℤ
below_zero n = within (neg_ℤ (pos n))

abbrev pub from_zero : ℕ → Option ℤ
from_zero n = within (pos n)

-- the number that the characters spell, within 64 bits: digits, with at most one `-` before them
abbrev pub spelled : List ℕ → Option ℤ
spelled s = spelled_by s (after_minus s)
  where
    spelled_by : List ℕ → Option (List ℕ) → Option ℤ
    spelled_by s None = option_and_then from_zero (numeral s)
    spelled_by s (Some cs) = option_and_then below_zero (numeral cs)

-- the number that the value is, or that its text spells within 64 bits
abbrev pub whole : Json → Option ℤ
whole (int z) = Some z
whole (text s) = spelled s
whole _ = None

-- `int`
abbrev pub to_int : List Json → Option Json
to_int args = of_one (λ j. option_map int (whole j)) args

-- so many numbers, each one above the one before
unfoldable pub counted : ℤ → ℕ → List Json
counted z zero = []
counted z (suc n) = int z ∷ counted (z +ℤ pos 1) n

-- whether there are so many numbers from one on: 0 to 10,000 of them, with their end at most 2,147,483,647
abbrev pub is_range : ℤ → ℤ → Bool
is_range z (negsuc n) = false
is_range z (pos n) = nat_le n 10000 && int_le (z +ℤ pos n) (pos 2147483647)

-- so many numbers from one on, where there are
abbrev pub numbers_from : ℤ → ℤ → Option Json
numbers_from z k = if is_range z k then Some (array (row (counted z (unsigned_abs k)))) else None

abbrev pub range : List Json → Option Json
range args = option_and_then (λ p. numbers_from p.0 p.1) (two_numbers args)
