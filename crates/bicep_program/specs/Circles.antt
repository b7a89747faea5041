-- Circles among files that name each other.
use Rattle.std.specs.Prelude.{ℕ, List, [], ◌∷◌, slice_index_or, Contains}

-- each leads to the next, and the last to the end
abbrev pub Chain : {A : Type 0} → (A → A → Type 0) → List A → A → Type 0
Chain Leads [] end = ⊥
Chain Leads (x ∷ []) end = Leads x end
Chain Leads (x ∷ y ∷ rest) end = Leads x y × Chain Leads (y ∷ rest) end

-- a circle: each leads to the next, and the last to the first
abbrev pub IsCircle : {A : Type 0} → (A → A → Type 0) → List A → Type 0
IsCircle Leads [] = ⊥
IsCircle Leads (x ∷ rest) = Chain Leads (x ∷ rest) x

-- where each file has a list of those that it names: the file of the first number names that of the second
abbrev pub Links : List (List ℕ) → ℕ → ℕ → Type 0
Links modules k j = Contains (slice_index_or modules k []) j
