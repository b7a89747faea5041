-- Values that a program without faults has outside of expressions.
use Rattle.std.specs.Prelude.{◌≡◌, ◌≢◌, ℕ, true, List, [], ◌∷◌}
use Rattle.std.specs.List.{AllByRecursion}
use Rattle.bicep_emission.specs.Source.{SourceTree, SourceTrees, PropertyTrees, ValueTree}
use Rattle.bicep_emission.specs.Source as s
use Rattle.bicep_emission.specs.Emittable.{IsEmittable}
use Rattle.emitted_trees.specs.EmittedTrees.{has_copy}

-- whether members may be loops: not inside a loop
pub data Loops : Type 0 where
  allowed : Loops
  not_allowed : Loops

-- the names of members
abbrev pub names : PropertyTrees → List (List ℕ)
names s.no_property = []
names (s.property at name v ps) = name ∷ names ps

-- each differs from those after it
abbrev pub Differ : List (List ℕ) → Type 0
Differ [] = Unit {0}
Differ (x ∷ xs) = AllByRecursion (λ other. x ≢ other) xs × Differ xs

abbrev mutual
  -- its expressions can be emitted, the names of members differ, and loops are members of objects that are no part of
  -- an expression
  pub IsSound : Loops → SourceTree → Type 0
  IsSound m (s.name at x) = Unit {0}
  IsSound m (s.literal at v) = Unit {0}
  IsSound m (s.interpolated at first ps) = IsEmittable (s.interpolated at first ps)
  IsSound m (s.object at ps) =
      (has_copy ps ≡ true → IsEmittable (s.object at ps)) × (Differ (names ps) × AreSoundMembers m ps)
  IsSound m (s.array at es) = AreSound m es
  IsSound m (s.call at name es) = IsEmittable (s.call at name es)
  IsSound m (s.instance r) = IsEmittable (s.instance r)
  IsSound m (s.field r at x) = IsEmittable (s.field r at x)
  IsSound m (s.output r at k) = IsEmittable (s.output r at k)
  IsSound m (s.member e k n) = IsEmittable (s.member e k n)
  IsSound m (s.index e k i) = IsEmittable (s.index e k i)
  IsSound m (s.prefixed at p e) = IsEmittable (s.prefixed at p e)
  IsSound m (s.binary o x y) = IsEmittable (s.binary o x y)
  IsSound m (s.conditional c x y) = IsEmittable (s.conditional c x y)

  pub AreSound : Loops → SourceTrees → Type 0
  AreSound m s.none = Unit {0}
  AreSound m (s.more e es) = IsSound m e × AreSound m es

  pub AreSoundMembers : Loops → PropertyTrees → Type 0
  AreSoundMembers m s.no_property = Unit {0}
  AreSoundMembers m (s.property at name v ps) = IsSoundValue m v × AreSoundMembers m ps

  pub IsSoundValue : Loops → ValueTree → Type 0
  IsSoundValue m (s.plain e) = IsSound m e
  IsSoundValue allowed (s.each (s.loop at xs) e) = IsEmittable xs × IsSound not_allowed e
  IsSoundValue not_allowed (s.each l e) = ⊥
