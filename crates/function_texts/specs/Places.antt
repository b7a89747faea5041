-- The functions that look for a part (Microsoft Learn: ARM template functions, string and array).
use Rattle.std.specs.Prelude.{ℕ, ◌+◌, ◌-◌, ◌==◌, ◌&&◌, nat_le, negsuc, Bool, true, false, List, [], ◌∷◌, length, drop}
use Rattle.std.specs.Prelude.{Option, Some, None, option_map, is_some}
use Rattle.arm_value.specs.Json.{Json, bool, int, text, array, object, items, members}
use Rattle.arm_value.specs.Look.{fold}
use Rattle.function_numbers.specs.Kinds.{of_two}
use Rattle.function_numbers.specs.Numbers.{from_zero}
use Rattle.function_lists.specs.Items.{or_found, here, first_place, last_place, is_among}
use Rattle.function_lists.specs.Members.{has_key}

-- whether the characters begin with these
unfoldable pub begins : List ℕ → List ℕ → Bool
begins [] s = true
begins (c ∷ cs) [] = false
begins (c ∷ cs) (d ∷ ds) = (c == d) && begins cs ds

-- whether the characters end with these
abbrev pub ends : List ℕ → List ℕ → Bool
ends part s = nat_le (length part) (length s) && begins part (drop (length s - length part) s)

abbrev pub starts_text : Json → Json → Option Json
starts_text (text s) (text part) = Some (bool (begins (fold part) (fold s)))
starts_text _ _ = None

-- `startsWith`
abbrev pub starts_with : List Json → Option Json
starts_with args = of_two starts_text args

abbrev pub ends_text : Json → Json → Option Json
ends_text (text s) (text part) = Some (bool (ends (fold part) (fold s)))
ends_text _ _ = None

-- `endsWith`
abbrev pub ends_with : List Json → Option Json
ends_with args = of_two ends_text args

-- the least place at which the characters go on with the part, counted on from i
unfoldable pub first_from : ℕ → List ℕ → List ℕ → Option ℕ
first_from i part [] = here (begins part []) i
first_from i part (c ∷ cs) = or_found (here (begins part (c ∷ cs)) i) (first_from (i + 1) part cs)

-- the greatest one
unfoldable pub last_from : ℕ → List ℕ → List ℕ → Option ℕ
last_from i part [] = here (begins part []) i
last_from i part (c ∷ cs) = or_found (last_from (i + 1) part cs) (here (begins part (c ∷ cs)) i)

-- a place as a number, -1 where there is none
abbrev pub place : Option ℕ → Option Json
place None = Some (int (negsuc 0))
place (Some i) = option_map int (from_zero i)

abbrev pub index_in : Json → Json → Option Json
index_in (text s) (text part) = place (first_from 0 (fold part) (fold s))
index_in (array js) j = place (first_place j (items js))
index_in _ _ = None

-- `indexOf`: of a text whatever the case of ASCII letters, or of an equal item
abbrev pub index_of : List Json → Option Json
index_of args = of_two index_in args

abbrev pub last_index_in : Json → Json → Option Json
last_index_in (text s) (text part) = place (last_from 0 (fold part) (fold s))
last_index_in (array js) j = place (last_place j (items js))
last_index_in _ _ = None

-- `lastIndexOf`
abbrev pub last_index_of : List Json → Option Json
last_index_of args = of_two last_index_in args

abbrev pub has_part : Json → Json → Option Json
has_part (text s) (text part) = Some (bool (is_some (first_from 0 part s)))
has_part (array js) j = Some (bool (is_among (items js) j))
has_part (object ms) (text key) = Some (bool (has_key key (members ms)))
has_part _ _ = None

-- a part of a text exactly, an equal item, or a key whatever the case of ASCII letters
abbrev pub contains : List Json → Option Json
contains args = of_two has_part args
