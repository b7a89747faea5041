-- Expressions that a program without faults has: each function is one that a file may call, a loop is no part of an
-- expression, and a text has at most 2 ^ 64 holes.
use Rattle.std.specs.Prelude.{◌≡◌, ◌≤◌, ◌^◌, ℕ, suc, true}
use Rattle.bicep_meaning.specs.Functions.{may_call}
use Rattle.bicep_resolved.specs.Source.{SourceTree, SourceTrees, PieceTrees, PropertyTrees, ReachTree, ValueTree}
use Rattle.bicep_resolved.specs.Source as s

-- how many holes there are
abbrev pub count : PieceTrees → ℕ
count s.no_piece = 0
count (s.piece e after ps) = suc (count ps)

abbrev mutual
  pub IsEmittable : SourceTree → Type 0
  IsEmittable (s.name at x) = Unit {0}
  IsEmittable (s.literal at v) = Unit {0}
  IsEmittable (s.interpolated at first ps) = AreHoles ps × (count ps ≤ 2 ^ 64)
  IsEmittable (s.object at ps) = AreMembers ps
  IsEmittable (s.array at es) = AreEmittable es
  IsEmittable (s.call at name es) = (may_call name ≡ true) × AreEmittable es
  IsEmittable (s.instance r) = Unit {0}
  IsEmittable (s.field r at x) = IsReach r
  IsEmittable (s.output r at k) = IsReach r
  IsEmittable (s.member e k n) = IsEmittable e
  IsEmittable (s.index e k i) = IsEmittable e × IsEmittable i
  IsEmittable (s.prefixed at p e) = IsEmittable e
  IsEmittable (s.binary o x y) = IsEmittable x × IsEmittable y
  IsEmittable (s.conditional c x y) = IsEmittable c × (IsEmittable x × IsEmittable y)

  pub AreEmittable : SourceTrees → Type 0
  AreEmittable s.none = Unit {0}
  AreEmittable (s.more e es) = IsEmittable e × AreEmittable es

  pub AreHoles : PieceTrees → Type 0
  AreHoles s.no_piece = Unit {0}
  AreHoles (s.piece e after ps) = IsEmittable e × AreHoles ps

  pub AreMembers : PropertyTrees → Type 0
  AreMembers s.no_property = Unit {0}
  AreMembers (s.property at name v ps) = IsValue v × AreMembers ps

  pub IsValue : ValueTree → Type 0
  IsValue (s.plain e) = IsEmittable e
  IsValue (s.each l e) = ⊥

  pub IsReach : ReachTree → Type 0
  IsReach (s.symbol at x) = Unit {0}
  IsReach (s.element at x e) = IsEmittable e
