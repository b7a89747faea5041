-- Files whose texts have at most 2 ^ 64 holes each, as those of every file that fits into a memory.
use Rattle.std.specs.Prelude.{Option, Some, None}
use Rattle.std.specs.List.{AllByRecursion}
use Rattle.bicep_resolved.specs.Source.{SourceTree, LoopTree}
use Rattle.bicep_resolved.specs.Source as s
use Rattle.bicep_declared.specs.Declarations.{BodyTree, DeclaredTree, DeclaredFileTree}
use Rattle.bicep_declared.specs.Declarations as d
use Rattle.sound_values.specs.FewHoles.{HasFewHoles, ValueHasFew, MembersHaveFew}

-- what a resource or a module runs over, and its condition
abbrev pub LoopHasFew : Option LoopTree → Type 0
LoopHasFew None = Unit {0}
LoopHasFew (Some (s.loop at xs)) = HasFewHoles xs

abbrev pub ConditionHasFew : Option SourceTree → Type 0
ConditionHasFew None = Unit {0}
ConditionHasFew (Some c) = HasFewHoles c

abbrev pub BodyHasFew : BodyTree → Type 0
BodyHasFew b = LoopHasFew b.each × (ConditionHasFew b.condition × MembersHaveFew b.fields)

abbrev pub DeclaredHasFew : DeclaredTree → Type 0
DeclaredHasFew (d.parameter at t) = Unit {0}
DeclaredHasFew (d.parameter_with at t e) = HasFewHoles e
DeclaredHasFew (d.variable at v) = ValueHasFew v
DeclaredHasFew (d.a_resource at q existing b) = BodyHasFew b
DeclaredHasFew (d.a_module at b) = BodyHasFew b

-- a file
pub record FileHasFew (f : DeclaredFileTree) : Type 0 where
  pub declarations : AllByRecursion DeclaredHasFew f.declarations
  pub outputs : AllByRecursion (λ o. ValueHasFew o.value) f.outputs
