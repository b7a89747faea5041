-- What a tree is: a number, a text, a truth value, an array or an object.
use Rattle.std.specs.Prelude.{ℕ, ℤ, Bool, List, [], ◌∷◌, Option, Some, None, option_map, option_and_then}
use Rattle.arm_value.specs.Json.{Json, bool, int, text, array, object, items, members, Member}

abbrev pub number_of : Json → Option ℤ
number_of (int z) = Some z
number_of _ = None

abbrev pub text_of : Json → Option (List ℕ)
text_of (text s) = Some s
text_of _ = None

abbrev pub truth_of : Json → Option Bool
truth_of (bool b) = Some b
truth_of _ = None

abbrev pub items_of : Json → Option (List Json)
items_of (array js) = Some (items js)
items_of _ = None

abbrev pub members_of : Json → Option (List Member)
members_of (object ms) = Some (members ms)
members_of _ = None

-- the numbers that all of these are
unfoldable pub numbers_in : List Json → Option (List ℤ)
numbers_in [] = Some []
numbers_in (j ∷ js) = option_and_then (λ z. option_map (λ zs. z ∷ zs) (numbers_in js)) (number_of j)

-- what a function of one argument gives
abbrev pub of_one : (Json → Option Json) → List Json → Option Json
of_one f (j ∷ []) = f j
of_one f _ = None

-- what a function of two arguments gives
abbrev pub of_two : (Json → Json → Option Json) → List Json → Option Json
of_two f (j ∷ k ∷ []) = f j k
of_two f _ = None

-- what a function without arguments gives
abbrev pub of_none : Json → List Json → Option Json
of_none value [] = Some value
of_none value _ = None
