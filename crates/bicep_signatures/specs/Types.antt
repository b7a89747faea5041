-- Types of values.
use Rattle.bicep_signatures.specs.declared.value_type.ValueType.{ValueType}
use Rattle.bicep_signatures.specs.declared.value_type.ValueType.TheVariants as t

-- the type of a value that is one of either type: the one type of both, else Any
abbrev pub common : ValueType → ValueType → ValueType
common t.Null t.Null = t.Null
common t.Text t.Text = t.Text
common t.Int t.Int = t.Int
common t.Bool t.Bool = t.Bool
common t.Object t.Object = t.Object
common t.Array t.Array = t.Array
common x y = t.Any
