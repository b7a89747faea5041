-- Things that are numbered from 0, by tags: each has some, and asks for others, so that it needs exactly those that
-- have
-- a tag for which it asks.
use Rattle.std.specs.Prelude.{◌≡◌, ◌⊎◌, ◌<◌, ℕ, suc, bytes_eq, Bool, true, List, [], ◌∷◌, ◌++◌, map, slice_get, Some}
use Rattle.std.specs.Prelude.{if◌then◌else◌}
use Rattle.std.specs.List.{list_any}
use Rattle.std.specs.declared.vec.Vec.{Vec}
use Rattle.std.specs.declared.alloc.Global.{Global}

abbrev pub Tag : Type 0
Tag = List ℕ

-- the tags of each
abbrev pub tags_of : Vec (Vec ℕ Global) Global → List Tag
tags_of v = map (λ t. t.items) v.items

abbrev pub tags_in : List (Vec (Vec ℕ Global) Global) → List (List Tag)
tags_in vs = map tags_of vs

-- whether one of the first is among the second
abbrev pub shares : List Tag → List Tag → Bool
shares asks ts = list_any (λ a. list_any (bytes_eq a) ts) asks

-- the numbers of those that have a tag for which is asked, where the first has the number j
abbrev pub needed : List Tag → ℕ → List (List Tag) → List ℕ
needed asks j [] = []
needed asks j (ts ∷ rest) = if shares asks ts then j ∷ needed asks (suc j) rest else needed asks (suc j) rest

-- one number with each of these
abbrev pub pairs_of : ℕ → List ℕ → List (ℕ × ℕ)
pairs_of i js = map (λ j. (i, j)) js

-- each pair of one and of what it needs, in order, where the first that asks has the number i
abbrev pub needs_from : ℕ → List (List Tag) → List (List Tag) → List (ℕ × ℕ)
needs_from i [] tags = []
needs_from i (asks ∷ rest) tags = pairs_of i (needed asks 0 tags) ++ needs_from (suc i) rest tags

abbrev pub IsListed : ℕ × ℕ → List (ℕ × ℕ) → Type 0
IsListed p [] = ⊥
IsListed p (q ∷ qs) = (q ≡ p) ⊎ IsListed p qs

-- two things share a tag, the lower number first
pub record IsShared (tags : List (List Tag)) (i j : ℕ) : Type 0 where
  pub below : i < j
  pub first : List Tag
  pub second : List Tag
  pub is_first : slice_get tags i ≡ Some first
  pub is_second : slice_get tags j ≡ Some second
  pub share : shares first second ≡ true
