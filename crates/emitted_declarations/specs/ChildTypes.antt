-- The type of a child resource.
use Rattle.std.specs.Prelude.{◌≡◌, ◌<◌, ℕ, length, List, [], ◌∷◌, ◌++◌, map}
use Rattle.arm_value.specs.Look.{fold}
use Rattle.arm_ids.specs.Segments.{segments}

-- the type of a child: that of its parent, which has two segments or more, in letters of any case, and one segment
pub record IsChildType (kind upper : List ℕ) : Type 0 where
  pub last : List ℕ
  pub is : map fold (segments kind) ≡ map fold (segments upper) ++ last ∷ []
  pub parent : 1 < length (segments upper)
