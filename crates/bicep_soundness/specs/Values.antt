-- The types of values.
use Rattle.std.specs.Prelude.{◌≡◌, true, Option, Some, None}
use Rattle.arm_value.specs.Json as j
use Rattle.arm_value.specs.Json.{Json}
use Rattle.bicep_signatures.specs.declared.kinds.Kinds.{Kinds}
use Rattle.bicep_signatures.specs.declared.value_type.ValueType.{ValueType}
use Rattle.bicep_signatures.specs.declared.value_type.ValueType.TheVariants as type
use Rattle.bicep_signatures.specs.Kinds.{fits}

-- the type of a value
abbrev pub type_of_value : Json → ValueType
type_of_value j.null = type.Null
type_of_value (j.bool b) = type.Bool
type_of_value (j.int z) = type.Int
type_of_value (j.text s) = type.Text
type_of_value (j.array vs) = type.Array
type_of_value (j.object ms) = type.Object

-- the value is of the type
abbrev pub IsOfType : ValueType → Json → Type 0
IsOfType type.Any v = Unit {0}
IsOfType x v = type_of_value v ≡ x

-- the value is of one of the kinds
abbrev pub IsOfKinds : Kinds → Json → Type 0
IsOfKinds ks v = fits ks (type_of_value v) ≡ true

-- each value that is there is of the type
abbrev pub Gives : ValueType → Option Json → Type 0
Gives t None = Unit {0}
Gives t (Some v) = IsOfType t v
