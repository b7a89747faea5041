-- The functions on sizes (Microsoft Learn: ARM template functions, array).
use Rattle.std.specs.Prelude.{ℕ, ◌==◌, Bool, true, List, length, Option, Some, None, option_map, option_and_then}
use Rattle.arm_value.specs.Json.{Json, null, bool, int, text, array, object, items, members}
use Rattle.function_numbers.specs.Kinds.{of_one}
use Rattle.function_numbers.specs.Numbers.{from_zero}

-- the number of characters, items or members
abbrev pub size_of : Json → Option ℕ
size_of (text s) = Some (length s)
size_of (array js) = Some (length (items js))
size_of (object ms) = Some (length (members ms))
size_of _ = None

-- `length`
abbrev pub size : List Json → Option Json
size args = of_one (λ j. option_map int (option_and_then from_zero (size_of j))) args

abbrev pub emptiness : Json → Option Bool
emptiness null = Some true
emptiness j = option_map (λ n. n == 0) (size_of j)

abbrev pub empty : List Json → Option Json
empty args = of_one (λ j. option_map bool (emptiness j)) args
