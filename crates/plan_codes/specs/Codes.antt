-- Tags of tasks as lists of numbers, by which they are looked up.
use Rattle.std.specs.Prelude.{◌≡◌, ℕ, nat_eq, List, [], ◌∷◌}
use Rattle.deploy_cells.specs.Cells.{Position}
use Rattle.deploy_cells.specs.Same.{same_position}
use Rattle.key_tags.specs.KeyCodes.{key_code}
use Rattle.plan_tags.specs.Tags.{Tag, entry, inside, before, root_left, child_of}

-- a tag, where scopes have numbers
abbrev pub code : (Position → ℕ) → Tag → List ℕ
code number (entry p) = 0 ∷ number p ∷ []
code number (inside p) = 1 ∷ number p ∷ []
code number (before p r n) = 2 ∷ number p ∷ r ∷ n ∷ []
code number root_left = 3 ∷ []
code number (child_of k) = 4 ∷ key_code k

-- these positions have numbers of their own
abbrev pub IsNumbering : (Position → ℕ) → (Position → Type 0) → Type 0
IsNumbering number P = (p q : Position) → P p → P q → nat_eq (number p) (number q) ≡ same_position p q

-- the tag is of such a scope
abbrev pub IsTagOf : (Position → Type 0) → Tag → Type 0
IsTagOf P (entry p) = P p
IsTagOf P (inside p) = P p
IsTagOf P (before p r n) = P p
IsTagOf P root_left = Unit {0}
IsTagOf P (child_of k) = Unit {0}
