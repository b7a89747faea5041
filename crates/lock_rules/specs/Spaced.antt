-- Names in a row.
use Rattle.std.specs.Prelude.{ℕ, ◌++◌, List, [], ◌∷◌}

-- names, each after a space
abbrev pub after_spaces : List (List ℕ) → List ℕ
after_spaces [] = []
after_spaces (name ∷ names) = 32 ∷ (name ++ after_spaces names)

-- names with a space between
abbrev pub spaced : List (List ℕ) → List ℕ
spaced [] = []
spaced (name ∷ names) = name ++ after_spaces names
