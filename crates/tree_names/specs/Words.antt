-- Values of a Bicep file whose names are names of template expressions, also inside for-expressions.
use Rattle.std.specs.Prelude.{Option, Some, None}
use Rattle.std.specs.List.{AllByRecursion}
use Rattle.bicep_resolved.specs.Source.{SourceTree, SourceTrees, PropertyTrees, ValueTree, LoopTree}
use Rattle.bicep_resolved.specs.Source as s
use Rattle.bicep_declared.specs.Declarations.{BodyTree, DeclaredTree, DeclaredFileTree}
use Rattle.bicep_declared.specs.Declarations as d
use Rattle.emitted_names.specs.Words.{HasWords}

-- objects and arrays become JSON, and an object with a member `copy` an expression; all else becomes expressions
abbrev mutual
  pub HasAllWords : SourceTree → Type 0
  HasAllWords (s.name at x) = HasWords (s.name at x)
  HasAllWords (s.literal at v) = HasWords (s.literal at v)
  HasAllWords (s.interpolated at first ps) = HasWords (s.interpolated at first ps)
  HasAllWords (s.object at ps) = HasWords (s.object at ps) × MembersHaveAllWords ps
  HasAllWords (s.array at es) = HaveAllWords es
  HasAllWords (s.call at name es) = HasWords (s.call at name es)
  HasAllWords (s.instance r) = HasWords (s.instance r)
  HasAllWords (s.field r at x) = HasWords (s.field r at x)
  HasAllWords (s.output r at k) = HasWords (s.output r at k)
  HasAllWords (s.member e k n) = HasWords (s.member e k n)
  HasAllWords (s.index e k i) = HasWords (s.index e k i)
  HasAllWords (s.prefixed at p e) = HasWords (s.prefixed at p e)
  HasAllWords (s.binary o x y) = HasWords (s.binary o x y)
  HasAllWords (s.conditional c x y) = HasWords (s.conditional c x y)

  pub HaveAllWords : SourceTrees → Type 0
  HaveAllWords s.none = Unit {0}
  HaveAllWords (s.more e es) = HasAllWords e × HaveAllWords es

  pub MembersHaveAllWords : PropertyTrees → Type 0
  MembersHaveAllWords s.no_property = Unit {0}
  MembersHaveAllWords (s.property at name v ps) = ValueHasAllWords v × MembersHaveAllWords ps

  pub ValueHasAllWords : ValueTree → Type 0
  ValueHasAllWords (s.plain e) = HasAllWords e
  ValueHasAllWords (s.each (s.loop at xs) e) = HasWords xs × HasAllWords e

-- what a resource or a module runs over, and its condition
abbrev pub LoopHasWords : Option LoopTree → Type 0
LoopHasWords None = Unit {0}
LoopHasWords (Some (s.loop at xs)) = HasWords xs

abbrev pub ConditionHasWords : Option SourceTree → Type 0
ConditionHasWords None = Unit {0}
ConditionHasWords (Some c) = HasWords c

abbrev pub BodyHasWords : BodyTree → Type 0
BodyHasWords b = LoopHasWords b.each × (ConditionHasWords b.condition × MembersHaveAllWords b.fields)

abbrev pub DeclaredHasWords : DeclaredTree → Type 0
DeclaredHasWords (d.parameter at t) = Unit {0}
DeclaredHasWords (d.parameter_with at t e) = HasAllWords e
DeclaredHasWords (d.variable at v) = ValueHasAllWords v
DeclaredHasWords (d.a_resource at q existing b) = BodyHasWords b
DeclaredHasWords (d.a_module at b) = BodyHasWords b

-- all values of a file
pub record FileHasAllWords (f : DeclaredFileTree) : Type 0 where
  pub declarations : AllByRecursion DeclaredHasWords f.declarations
  pub outputs : AllByRecursion (λ o. ValueHasAllWords o.value) f.outputs
