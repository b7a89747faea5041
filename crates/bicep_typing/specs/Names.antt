-- The types of what names, fields and outputs stand for.
use Rattle.std.specs.Prelude.{ℕ, List, map, Option, Some, None, Ok, Err, slice_get}
use Rattle.std.specs.declared.vec.Vec.{Vec}
use Rattle.std.specs.declared.alloc.Global.{Global}
use Rattle.bicep_resolved.specs.declared.leaf.Field.{Field}
use Rattle.bicep_resolved.specs.declared.leaf.Field.TheVariants as f
use Rattle.bicep_resolved.specs.declared.leaf.Meaning.{Meaning}
use Rattle.bicep_resolved.specs.declared.leaf.Meaning.TheVariants as m
use Rattle.bicep_resolved.specs.declared.leaf.Target.{Target}
use Rattle.bicep_resolved.specs.declared.leaf.Target.TheVariants as r
use Rattle.bicep_signatures.specs.declared.value_type.ValueType.{ValueType}
use Rattle.bicep_signatures.specs.declared.value_type.ValueType.TheVariants as t
use Rattle.bicep_typing.specs.Typed.{Typed}

-- the types of the parameters and variables of a file by the numbers of symbols, and of each file of its program the
-- types of the outputs in source order
pub record Types : Type 0 where
  pub symbols : List ValueType
  pub outputs : List (List ValueType)

abbrev pub listed : Vec ValueType Global → List ValueType
listed v = v.items

-- these types, as the code has them
abbrev pub types_in : List ValueType → List (Vec ValueType Global) → Types
types_in ss os = record { symbols = ss; outputs = map listed os }

-- a type by its number; Any where there is none
abbrev pub known : Option ValueType → ValueType
known (Some x) = x
known None = t.Any

-- a parameter, a variable, or the item or the index of a loop
unfoldable pub name_type : List ValueType → Meaning → ValueType
name_type ss (m.Parameter n) = known (slice_get ss n)
name_type ss (m.Variable n) = known (slice_get ss n)
name_type ss (m.Item n) = t.Any
name_type ss (m.Index n) = t.Int

-- a field of a resource, whose name is at a place
abbrev pub resource_field : ℕ → Field → Typed
resource_field at f.Id = Ok t.Text
resource_field at f.Name = Ok t.Text
resource_field at f.Type = Ok t.Text
resource_field at f.ApiVersion = Ok t.Text
resource_field at f.Properties = Ok t.Any
resource_field at f.Outputs = Err at
resource_field at (f.Other n) = Ok t.Any

-- a field of a module, whose name is at a place
abbrev pub module_field : ℕ → Field → Typed
module_field at f.Name = Ok t.Text
module_field at x = Err at

unfoldable pub field_type : Target → ℕ → Field → Typed
field_type (r.Resource n) at x = resource_field at x
field_type (r.ResourceLoop n) at x = resource_field at x
field_type (r.Module n file) at x = module_field at x
field_type (r.ModuleLoop n file) at x = module_field at x

abbrev pub output_in : Option (List ValueType) → ℕ → ValueType
output_in (Some xs) k = known (slice_get xs k)
output_in None k = t.Any

-- an output of a module by its number, whose name is at a place
unfoldable pub output_type : List (List ValueType) → Target → ℕ → ℕ → Typed
output_type os (r.Module n file) at k = Ok (output_in (slice_get os file) k)
output_type os (r.ModuleLoop n file) at k = Ok (output_in (slice_get os file) k)
output_type os (r.Resource n) at k = Err at
output_type os (r.ResourceLoop n) at k = Err at
