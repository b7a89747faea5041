-- The values that a parameter may have, by its type and its decorators (Microsoft Learn, "Parameters in Bicep").
use Rattle.std.specs.Prelude.{◌≡◌, ℕ, ℤ, nat_le, ◌&&◌, Bool, false, List, [], Option, Some, None, option_map}
use Rattle.std.specs.Prelude.{option_and_then, slice_get, is_some}
use Rattle.arm_value.specs.Json.{Json, nesting, items}
use Rattle.template_parts.specs.declared.parameter.Bounds.{Bounds}
use Rattle.template_parts.specs.declared.value_type.ValueType.{ValueType}
use Rattle.template_parts.specs.declared.value_type.ValueType.TheVariants as type
use Rattle.template_parameters.specs.Rule.{is_allowed, is_within}
use Rattle.bicep_tree.specs.declared.leaf.TypeName.{TypeName}
use Rattle.bicep_tree.specs.declared.leaf.TypeName.TheVariants as name
use Rattle.bicep_tree.specs.Tree.{Tree, Trees, none, more, DecoratorTrees, no_decorator, FileTree}
use Rattle.bicep_tree.specs.Tree as tree
use Rattle.bicep_decorators.specs.declared.kind.DecoratorKind.{DecoratorKind}
use Rattle.bicep_decorators.specs.declared.kind.DecoratorKind.TheVariants as k
use Rattle.bicep_declared.specs.Declarations.{DeclaredTree}
use Rattle.bicep_declared.specs.Declarations as d
use Rattle.bicep_meaning.specs.Files.{SourceFile, declaration}
use Rattle.bicep_meaning.specs.Instances as source
use Rattle.symbol_decorators.specs.Decorators.{decorators_of}
use Rattle.parameter_rules.specs.Kinds.{arguments_of}
use Rattle.parameter_rules.specs.Literals.{whole_of, row_of}

-- the number that is the first argument
abbrev pub first_number : Trees → Option ℤ
first_number none = None
first_number (more e es) = whole_of e

abbrev pub number_of : DecoratorKind → DecoratorTrees → Option ℤ
number_of kind ds = option_and_then first_number (arguments_of kind ds)

-- `@minValue`, `@maxValue`, `@minLength` and `@maxLength`
abbrev pub bounds_of : DecoratorTrees → Bounds
bounds_of ds = record {
  min_value = number_of k.MinValue ds;
  max_value = number_of k.MaxValue ds;
  min_length = number_of k.MinLength ds;
  max_length = number_of k.MaxLength ds;
}

-- the values in an array of literals
abbrev pub values_in : Tree → List Json
values_in (tree.array at es) = items (row_of es)
values_in e = []

abbrev pub first_values : Trees → List Json
first_values none = []
first_values (more e es) = values_in e

-- `@allowed`
abbrev pub allowed_of : DecoratorTrees → Option (List Json)
allowed_of ds = option_map first_values (arguments_of k.Allowed ds)

-- whether a parameter of that type and with these decorators may have the value, which nests at most 100 deep
abbrev pub accepts : TypeName → DecoratorTrees → Json → Bool
accepts t ds j =
    (source.is_of t j && nat_le (nesting j) 100) && (is_allowed (allowed_of ds) j && is_within (bounds_of ds) j)

-- ---- in templates

abbrev pub plain_kind : TypeName → ValueType
plain_kind name.String = type.String
plain_kind name.Int = type.Int
plain_kind name.Bool = type.Bool
plain_kind name.Object = type.Object
plain_kind name.Array = type.Array

-- a text or an object may be secret
abbrev pub secret_kind : TypeName → ValueType
secret_kind name.String = type.SecureString
secret_kind name.Int = type.Int
secret_kind name.Bool = type.Bool
secret_kind name.Object = type.SecureObject
secret_kind name.Array = type.Array

abbrev pub kind_by : Bool → TypeName → ValueType
kind_by false t = plain_kind t
kind_by b t = secret_kind t

-- `@secure`
abbrev pub is_secret : DecoratorTrees → Bool
is_secret ds = is_some (arguments_of k.Secure ds)

-- ---- in files

-- the type of a parameter
abbrev pub type_by : DeclaredTree → Option TypeName
type_by (d.parameter at t) = Some t
type_by (d.parameter_with at t e) = Some t
type_by (d.variable at v) = None
type_by (d.a_resource at q existing b) = None
type_by (d.a_module at b) = None

abbrev pub type_of : Option DeclaredTree → Option TypeName
type_of o = option_and_then type_by o

abbrev pub or_no : Option DecoratorTrees → DecoratorTrees
or_no None = no_decorator
or_no (Some ds) = ds

-- whether the parameter of that type may have the value; only a parameter has values
abbrev pub accepts_by : Option TypeName → DecoratorTrees → Json → Bool
accepts_by (Some t) ds j = accepts t ds j
accepts_by None ds j = false

-- the file accepts the values that the types and the decorators of its parameters allow
abbrev pub HasRules : FileTree → SourceFile → Type 0
HasRules t f = (n : ℕ) (j : Json)
    → f.accepts n j ≡ accepts_by (type_of (declaration f n)) (or_no (slice_get (decorators_of t) n)) j
