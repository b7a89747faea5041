-- The functions on the ends of arrays and texts (Microsoft Learn: ARM template functions, array and string).
use Rattle.std.specs.Prelude.{ℕ, ◌-◌, ℤ, pos, negsuc, List, [], ◌∷◌, length, slice_get, Option, Some, None}
use Rattle.std.specs.Prelude as prelude
use Rattle.arm_value.specs.Json.{Json, int, text, array, items}
use Rattle.function_numbers.specs.Kinds.{of_one, of_two}
use Rattle.function_lists.specs.Values.{array_of, or_null}

-- the first item, null where there is none; the text of the first character
abbrev pub first_part : Json → Option Json
first_part (array js) = Some (or_null (slice_get (items js) 0))
first_part (text s) = Some (text (prelude.take 1 s))
first_part _ = None

abbrev pub first : List Json → Option Json
first args = of_one first_part args

-- the last item, null where there is none; the text of the last character
abbrev pub last_part : Json → Option Json
last_part (array js) = Some (or_null (slice_get (items js) (length (items js) - 1)))
last_part (text s) = Some (text (prelude.drop (length s - 1) s))
last_part _ = None

abbrev pub last : List Json → Option Json
last args = of_one last_part args

-- a count, 0 where it is below that
abbrev pub amount : ℤ → ℕ
amount (pos n) = n
amount (negsuc n) = 0

abbrev pub without_front : Json → Json → Option Json
without_front (array js) (int z) = array_of (prelude.drop (amount z) (items js))
without_front (text s) (int z) = Some (text (prelude.drop (amount z) s))
without_front _ _ = None

abbrev pub skip : List Json → Option Json
skip args = of_two without_front args

abbrev pub front_alone : Json → Json → Option Json
front_alone (array js) (int z) = array_of (prelude.take (amount z) (items js))
front_alone (text s) (int z) = Some (text (prelude.take (amount z) s))
front_alone _ _ = None

abbrev pub take : List Json → Option Json
take args = of_two front_alone args
