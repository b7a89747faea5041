-- What a name finds in a value.
use Rattle.std.specs.Prelude.{ℕ, List, [], ◌∷◌, map, bytes_eq, Bool, true, false, Option, Some, None, if◌then◌else◌}
use Rattle.std.specs.Char.{to_ascii_lowercase}
use Rattle.arm_value.specs.Json.{Json, null, bool, int, text, array, object, Pairs, no_pairs, pair}
use Rattle.std.specs.List.{list_any}

-- whether the text has no character
abbrev pub is_empty : List ℕ → Bool
is_empty [] = true
is_empty (c ∷ cs) = false

-- the text with small letters in place of A to Z
abbrev pub fold : List ℕ → List ℕ
fold s = map to_ascii_lowercase s

abbrev pub is_same_folded : List ℕ → List ℕ → Bool
is_same_folded s t = bytes_eq (fold s) (fold t)

-- the first member whose key passes the test
abbrev pub first_by : (List ℕ → Bool) → Pairs → Option Json
first_by p no_pairs = None
first_by p (pair k j ms) = if p k then Some j else first_by p ms

abbrev pub or_else : Option Json → Option Json → Option Json
or_else None o = o
or_else (Some j) o = Some j

-- the member of this key, else of the least key that is the same folded
abbrev pub look_in : List ℕ → Pairs → Option Json
look_in name ms = or_else (first_by (bytes_eq name) ms) (first_by (is_same_folded name) ms)

abbrev pub look : List ℕ → Json → Option Json
look name null = None
look name (bool b) = None
look name (int z) = None
look name (text s) = None
look name (array js) = None
look name (object ms) = look_in name ms

abbrev pub is_among : List (List ℕ) → List ℕ → Bool
is_among names name = list_any (is_same_folded name) names
