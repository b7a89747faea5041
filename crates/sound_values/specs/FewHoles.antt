-- Expressions whose texts have at most 2 ^ 64 holes each, as those of every file that fits into a memory.
use Rattle.std.specs.Prelude.{◌≤◌, ◌^◌}
use Rattle.bicep_resolved.specs.Source.{SourceTree, SourceTrees, PieceTrees, PropertyTrees, ReachTree, ValueTree}
use Rattle.bicep_resolved.specs.Source as s
use Rattle.emitted_trees.specs.Emittable.{count}

abbrev mutual
  pub HasFewHoles : SourceTree → Type 0
  HasFewHoles (s.name at x) = Unit {0}
  HasFewHoles (s.literal at v) = Unit {0}
  HasFewHoles (s.interpolated at first ps) = HolesHaveFew ps × (count ps ≤ 2 ^ 64)
  HasFewHoles (s.object at ps) = MembersHaveFew ps
  HasFewHoles (s.array at es) = AllHaveFew es
  HasFewHoles (s.call at name es) = AllHaveFew es
  HasFewHoles (s.instance r) = ReachHasFew r
  HasFewHoles (s.field r at x) = ReachHasFew r
  HasFewHoles (s.output r at k) = ReachHasFew r
  HasFewHoles (s.member e k n) = HasFewHoles e
  HasFewHoles (s.index e k i) = HasFewHoles e × HasFewHoles i
  HasFewHoles (s.prefixed at p e) = HasFewHoles e
  HasFewHoles (s.binary o x y) = HasFewHoles x × HasFewHoles y
  HasFewHoles (s.conditional c x y) = HasFewHoles c × (HasFewHoles x × HasFewHoles y)

  pub AllHaveFew : SourceTrees → Type 0
  AllHaveFew s.none = Unit {0}
  AllHaveFew (s.more e es) = HasFewHoles e × AllHaveFew es

  pub HolesHaveFew : PieceTrees → Type 0
  HolesHaveFew s.no_piece = Unit {0}
  HolesHaveFew (s.piece e after ps) = HasFewHoles e × HolesHaveFew ps

  pub MembersHaveFew : PropertyTrees → Type 0
  MembersHaveFew s.no_property = Unit {0}
  MembersHaveFew (s.property at name v ps) = ValueHasFew v × MembersHaveFew ps

  pub ValueHasFew : ValueTree → Type 0
  ValueHasFew (s.plain e) = HasFewHoles e
  ValueHasFew (s.each (s.loop at xs) e) = HasFewHoles xs × HasFewHoles e

  pub ReachHasFew : ReachTree → Type 0
  ReachHasFew (s.symbol at x) = Unit {0}
  ReachHasFew (s.element at x e) = HasFewHoles e
