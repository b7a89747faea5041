-- Keys as lists of numbers, by which they are looked up.
use Rattle.std.specs.Prelude.{ℕ, ◌+◌, ◌-◌, List, [], ◌∷◌, ◌++◌, map, length, take}
use Rattle.arm_ids.specs.declared.id.ResourceId.{ResourceId}

-- a text before other numbers: each character plus 1, and 0 after the last
abbrev pub text_code : List ℕ → List ℕ → List ℕ
text_code x rest = map (λ c. c + 1) x ++ 0 ∷ rest

-- texts before other numbers: 1 before each, and 0 after the last
abbrev pub texts_code : List (List ℕ) → List ℕ → List ℕ
texts_code [] rest = 0 ∷ rest
texts_code (x ∷ xs) rest = 1 ∷ text_code x (texts_code xs rest)

abbrev pub key_code : ResourceId → List ℕ
key_code k = text_code k.subscription (text_code k.group (texts_code k.types (texts_code k.names [])))

abbrev pub all_but_last : List (List ℕ) → List (List ℕ)
all_but_last xs = take (length xs - 1) xs

-- a key without its last type and its last name
abbrev pub parent_parts : ResourceId → ResourceId
parent_parts k = record k { types = all_but_last k.types; names = all_but_last k.names }
