-- The place of a key among members, or the place where it would be inserted.
use Rattle.std.specs.Prelude.{◌≡◌, ◌<◌, ◌≤◌, ℕ, zero, suc, max, List, [], ◌∷◌, length, insert, Result, Ok, Err}
use Rattle.arm_value.specs.Json.{Json, Member, nesting, members_nesting, put}

-- the members, with a value in place of that of the member there
abbrev pub replaced : List Member → ℕ → Json → List Member
replaced [] i j = []
replaced (m ∷ ms) zero j = (m.0, j) ∷ ms
replaced (m ∷ ms) (suc i) j = m ∷ replaced ms i j

-- the nesting of the deepest member but the one there
abbrev pub others_nesting : List Member → ℕ → ℕ
others_nesting [] i = 0
others_nesting (m ∷ ms) zero = members_nesting ms
others_nesting (m ∷ ms) (suc i) = max (nesting m.1) (others_nesting ms i)

-- putting a value at the key replaces the value there, or inserts a member there
abbrev pub IsPlace : List ℕ → List Member → Result ℕ ℕ → Type 0
IsPlace k ms (Ok i) = (i < length ms) × ((j : Json) → put k j ms ≡ replaced ms i j)
IsPlace k ms (Err i) = (i ≤ length ms) × ((j : Json) → put k j ms ≡ insert ms i (k, j))
