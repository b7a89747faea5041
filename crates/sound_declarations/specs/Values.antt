-- What a file of a program without faults has, as far as its values are emitted.
use Rattle.std.specs.Prelude.{◌≡◌, false, Option, Some, None}
use Rattle.std.specs.List.{AllByRecursion}
use Rattle.bicep_resolved.specs.Source.{SourceTree, LoopTree}
use Rattle.bicep_resolved.specs.Source as s
use Rattle.bicep_declared.specs.Declarations.{BodyTree, DeclaredTree, DeclaredFileTree}
use Rattle.bicep_declared.specs.Declarations as d
use Rattle.bicep_emission.specs.Emittable.{IsEmittable}
use Rattle.sound_values.specs.EmittedTrees.{has_copy}
use Rattle.sound_values.specs.Sound.{IsSound, IsSoundValue, allowed}

-- what a resource or a module runs over, and its condition
abbrev pub IsLoopSound : Option LoopTree → Type 0
IsLoopSound None = Unit {0}
IsLoopSound (Some (s.loop at xs)) = IsEmittable xs

abbrev pub IsConditionSound : Option SourceTree → Type 0
IsConditionSound None = Unit {0}
IsConditionSound (Some c) = IsEmittable c

-- the body of a resource or a module; its fields are those of an object, none of which is named `copy`
pub record IsBodySound (b : BodyTree) : Type 0 where
  pub each : IsLoopSound b.each
  pub condition : IsConditionSound b.condition
  pub fields : IsSound allowed (s.object b.at b.fields)
  pub no_copy : has_copy b.fields ≡ false

-- a declaration
abbrev pub IsDeclaredSound : DeclaredTree → Type 0
IsDeclaredSound (d.parameter at t) = Unit {0}
IsDeclaredSound (d.parameter_with at t e) = IsEmittable e × IsSound allowed e
IsDeclaredSound (d.variable at v) = IsSoundValue allowed v
IsDeclaredSound (d.a_resource at q existing b) = IsBodySound b
IsDeclaredSound (d.a_module at b) = IsBodySound b

-- the values of a file
pub record AreValuesSound (f : DeclaredFileTree) : Type 0 where
  pub declarations : AllByRecursion IsDeclaredSound f.declarations
  pub outputs : AllByRecursion (λ o. IsSoundValue allowed o.value) f.outputs
