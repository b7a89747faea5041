-- The functions on the items of arrays (Microsoft Learn: ARM template functions, array).
use Rattle.std.specs.Prelude.{ℕ, pos, negsuc, Bool, true, false, List, [], ◌∷◌, ◌++◌, ◌+◌, Option, Some, None}
use Rattle.std.specs.Prelude.{option_map, option_and_then, if◌then◌else◌}
use Rattle.std.specs.List.{list_any, list_all, filter}
use Rattle.arm_value.specs.Json.{Json, int, array, items}
use Rattle.arm_value.specs.Same.{is_same}
use Rattle.function_numbers.specs.Kinds.{items_of, of_one}
use Rattle.function_lists.specs.Values.{array_of}
use Rattle.arm_value.specs.Kinds.{is_array}

-- an array itself, else the array of the value alone
abbrev pub as_array : Json → Option Json
as_array (array js) = Some (array js)
as_array j = array_of (j ∷ [])

-- `array`
abbrev pub to_array : List Json → Option Json
to_array args = of_one as_array args

-- `createArray`
abbrev pub create_array : List Json → Option Json
create_array args = array_of args

-- the items of all these arrays, one after another
unfoldable pub joined : List Json → Option (List Json)
joined [] = Some []
joined (j ∷ js) = option_and_then (λ front. option_map (λ rest. front ++ rest) (joined js)) (items_of j)

-- `concat` of arrays
abbrev pub concat_arrays : List Json → Option Json
concat_arrays args = option_and_then array_of (joined args)

abbrev pub flatten : List Json → Option Json
flatten args = of_one (λ j. option_and_then concat_arrays (items_of j)) args

-- whether an item is equal to the value
abbrev pub is_among : List Json → Json → Bool
is_among js j = list_any (is_same j) js

-- the items that are equal to none of these and none before
unfoldable pub distinct : List Json → List Json → List Json
distinct before [] = []
distinct before (j ∷ js) = if is_among before j then distinct (before ++ j ∷ []) js
    else j ∷ distinct (before ++ j ∷ []) js

-- `union` of arrays: the items in the order of their first appearance, equal ones once
abbrev pub union_of_arrays : List Json → Option Json
union_of_arrays args = option_and_then (λ js. array_of (distinct [] js)) (joined args)

-- whether the value is an item of the array
abbrev pub is_item_of : Json → Json → Bool
is_item_of j (array ks) = is_among (items ks) j
is_item_of j _ = false

-- `intersection` of arrays: the items of the first that are in all others, equal ones once
abbrev pub intersection_of_arrays : List Json → List Json → Option Json
intersection_of_arrays js others = if list_all is_array others
    then array_of (filter (λ j. list_all (is_item_of j) others) (distinct [] js)) else None

abbrev pub or_found : Option ℕ → Option ℕ → Option ℕ
or_found None o = o
or_found (Some i) o = Some i

-- the place, where it passes
abbrev pub here : Bool → ℕ → Option ℕ
here true i = Some i
here false i = None

-- the place of the first item that is equal to the value, counted on from i
unfoldable pub first_from : ℕ → Json → List Json → Option ℕ
first_from i j [] = None
first_from i j (k ∷ ks) = or_found (here (is_same j k) i) (first_from (i + 1) j ks)

-- the place of the last one, counted on from i
unfoldable pub last_from : ℕ → Json → List Json → Option ℕ
last_from i j [] = None
last_from i j (k ∷ ks) = or_found (last_from (i + 1) j ks) (here (is_same j k) i)

abbrev pub first_place : Json → List Json → Option ℕ
first_place j js = first_from 0 j js

abbrev pub last_place : Json → List Json → Option ℕ
last_place j js = last_from 0 j js

-- a place as a number, -1 where there is none
abbrev pub place_or_minus_one : Option ℕ → Json
place_or_minus_one None = int (negsuc 0)
place_or_minus_one (Some i) = int (pos i)
