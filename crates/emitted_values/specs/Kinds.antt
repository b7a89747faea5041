-- The types of parameters and outputs that hold no secret, as templates name them.
use Rattle.bicep_tree.specs.declared.leaf.TypeName.{TypeName}
use Rattle.bicep_tree.specs.declared.leaf.TypeName.TheVariants as name
use Rattle.template_parts.specs.declared.value_type.ValueType.{ValueType}
use Rattle.template_parts.specs.declared.value_type.ValueType.TheVariants as type

abbrev pub kind_of : TypeName → ValueType
kind_of name.String = type.String
kind_of name.Int = type.Int
kind_of name.Bool = type.Bool
kind_of name.Object = type.Object
kind_of name.Array = type.Array
