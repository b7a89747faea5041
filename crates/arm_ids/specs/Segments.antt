-- The segments of a text: the parts between its slashes.
use Rattle.std.specs.Prelude.{ℕ, ◌==◌, ◌&&◌, bytes_eq, Bool, true, false, List, [], ◌∷◌, ◌++◌}
use Rattle.std.specs.List.{slice_split, list_any}
pub use Rattle.arm_value.specs.Look.{is_empty}

-- whether the character is a slash
abbrev pub is_slash : ℕ → Bool
is_slash c = c == 47

-- the parts of a text between its slashes
abbrev pub segments : List ℕ → List (List ℕ)
segments text = slice_split is_slash text

-- these segments as one text, with a slash before each
abbrev pub slashed : List (List ℕ) → List ℕ
slashed [] = []
slashed (s ∷ ss) = 47 ∷ (s ++ slashed ss)

-- these segments as one text, with a slash between each two
abbrev pub joined : List (List ℕ) → List ℕ
joined [] = []
joined (s ∷ ss) = s ++ slashed ss

-- whether the text has a slash in it
abbrev pub has_slash : List ℕ → Bool
has_slash text = list_any is_slash text

-- whether the second list begins with the texts of the first
abbrev pub is_front : List (List ℕ) → List (List ℕ) → Bool
is_front [] ys = true
is_front (x ∷ xs) [] = false
is_front (x ∷ xs) (y ∷ ys) = bytes_eq x y && is_front xs ys

-- the first, third, fifth .. of these
abbrev pub firsts : List (List ℕ) → List (List ℕ)
firsts [] = []
firsts (x ∷ []) = x ∷ []
firsts (x ∷ y ∷ rest) = x ∷ firsts rest

-- the second, fourth, sixth .. of these
abbrev pub seconds : List (List ℕ) → List (List ℕ)
seconds [] = []
seconds (x ∷ []) = []
seconds (x ∷ y ∷ rest) = y ∷ seconds rest

-- the texts of both lists by turns, which begin with the first list's
abbrev pub by_turns : List (List ℕ) → List (List ℕ) → List (List ℕ)
by_turns [] ys = []
by_turns (x ∷ xs) [] = []
by_turns (x ∷ xs) (y ∷ ys) = x ∷ y ∷ by_turns xs ys
