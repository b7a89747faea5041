-- The types of the symbols of a file: parameters have the types that they are declared with, variables those of their
-- values.
use Rattle.std.specs.Prelude.{◌≡◌, ℕ, zero, suc, List, [], length, map, Ok, Err}
use Rattle.bicep_tree.specs.declared.leaf.TypeName.{TypeName}
use Rattle.bicep_tree.specs.declared.leaf.TypeName.TheVariants as n
use Rattle.bicep_declared.specs.Declarations.{DeclaredTree}
use Rattle.bicep_declared.specs.Declarations as d
use Rattle.bicep_signatures.specs.declared.value_type.ValueType.{ValueType}
use Rattle.bicep_signatures.specs.declared.value_type.ValueType.TheVariants as t
use Rattle.bicep_typing.specs.Typed.{Typed}
use Rattle.bicep_typing.specs.Names.{Types}
use Rattle.bicep_typing.specs.Typing.{value_type}

-- the type of the values of a declared type
abbrev pub type_named : TypeName → ValueType
type_named n.String = t.Text
type_named n.Int = t.Int
type_named n.Bool = t.Bool
type_named n.Object = t.Object
type_named n.Array = t.Array

-- the type; Any where a part does not fit
abbrev pub or_any : Typed → ValueType
or_any (Ok x) = x
or_any (Err at) = t.Any

-- the type of the symbol of a declaration, by the types of the symbols that it mentions; that of a resource or a module
-- is not asked for
abbrev pub symbol_type : Types → DeclaredTree → ValueType
symbol_type ts (d.parameter at ty) = type_named ty
symbol_type ts (d.parameter_with at ty e) = type_named ty
symbol_type ts (d.variable at v) = or_any (value_type ts v)
symbol_type ts (d.a_resource at q existing b) = t.Any
symbol_type ts (d.a_module at b) = t.Any

-- symbols of these types, in a program whose files have outputs of those
abbrev pub with_outputs : List (List ValueType) → List ValueType → Types
with_outputs os xs = record { symbols = xs; outputs = os }

-- what the declarations say, where these are the types of the symbols that they mention
abbrev pub type_step : List (List ValueType) → List DeclaredTree → List ValueType → List ValueType
type_step os ds xs = map (symbol_type (with_outputs os xs)) ds

-- the types are those that the declarations say by these types themselves
abbrev pub AreTypes : List (List ValueType) → List DeclaredTree → List ValueType → Type 0
AreTypes os ds xs = type_step os ds xs ≡ xs

-- the types that are known through fewer declarations than that number
unfoldable pub types_within : List (List ValueType) → List DeclaredTree → ℕ → List ValueType
types_within os ds zero = []
types_within os ds (suc k) = type_step os ds (types_within os ds k)

-- the types of the symbols of a file; through more declarations than there are leads only a circle
abbrev pub symbol_types : List (List ValueType) → List DeclaredTree → List ValueType
symbol_types os ds = types_within os ds (length ds)
