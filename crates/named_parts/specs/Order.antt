-- Parts of a template in the byte order of their names.
use Rattle.std.specs.Prelude.{ℕ, suc, List, [], ◌∷◌, map}
use Rattle.std.specs.List.Sorted.{IsStrictlySortedBy}
use Rattle.std.specs.Ordering.{match_ordering}
use Rattle.arm_value.specs.Json.{key_cmp}

-- each name is before those of the parts after it
abbrev pub AreInOrder : {A : Type 0} → (A → List ℕ) → List A → Type 0
AreInOrder name xs = IsStrictlySortedBy key_cmp (map name xs)

-- the place of a name among parts that are in order
abbrev pub place_of : {A : Type 0} → (A → List ℕ) → List ℕ → List A → ℕ
place_of name n [] = 0
place_of name n (x ∷ xs) = match_ordering (key_cmp n (name x)) 0 0 (suc (place_of name n xs))

-- the parts with one more in its place
abbrev pub inserted : {A : Type 0} → (A → List ℕ) → A → List A → List A
inserted name y [] = y ∷ []
inserted name y (x ∷ xs) =
    match_ordering (key_cmp (name y) (name x)) (y ∷ x ∷ xs) (y ∷ x ∷ xs) (x ∷ inserted name y xs)
