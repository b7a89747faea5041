-- The rule of a parameter (Microsoft Learn, "Parameters in ARM templates"): its type, the values that are allowed, and
-- its bounds.
use Rattle.std.specs.Prelude.{ℤ, pos, nat_le, int_le, ◌&&◌, ◌||◌, Bool, true, false, List}
use Rattle.std.specs.Prelude.{length}
use Rattle.std.specs.Prelude.{Option, Some, None, if◌then◌else◌}
use Rattle.std.specs.List.{list_any}
use Rattle.arm_value.specs.Json.{Json, bool, int, text, array, Row, no_items, item, nesting}
use Rattle.arm_value.specs.Same.{is_same}
use Rattle.template_parts.specs.declared.parameter.Bounds.{Bounds}
use Rattle.template_parts.specs.declared.parameter.Parameter.{Parameter}
use Rattle.template_parts.specs.declared.value_type.ValueType.{ValueType}
use Rattle.template_parts.specs.declared.value_type.ValueType.TheVariants as type
use Rattle.template_parameters.specs.declared.rule.Breach.{Breach}
use Rattle.template_parameters.specs.declared.rule.Breach.TheVariants.{WrongType, NotAllowed, OutOfBounds}
use Rattle.arm_value.specs.Kinds.{row_length, is_array, is_object}

abbrev pub is_text : Json → Bool
is_text (text s) = true
is_text _ = false

abbrev pub is_int : Json → Bool
is_int (int z) = true
is_int _ = false

abbrev pub is_bool : Json → Bool
is_bool (bool b) = true
is_bool _ = false

-- whether the value is of the type
abbrev pub is_of : ValueType → Json → Bool
is_of type.String j = is_text j
is_of type.SecureString j = is_text j
is_of type.Int j = is_int j
is_of type.Bool j = is_bool j
is_of type.Object j = is_object j
is_of type.SecureObject j = is_object j
is_of type.Array j = is_array j

-- whether the value is of the parameter's type and nests at most 100 deep
abbrev pub is_typed : Parameter → Json → Bool
is_typed p j = is_of p.kind j && nat_le (nesting j) 100

-- whether the value is one of these
abbrev pub is_listed : List Json → Json → Bool
is_listed values j = list_any (λ other. is_same other j) values

-- whether each of the items is one of these
abbrev pub row_is_listed : List Json → Row → Bool
row_is_listed values no_items = true
row_is_listed values (item j js) = if is_listed values j then row_is_listed values js else false

-- whether the value is an array of these
abbrev pub are_listed : List Json → Json → Bool
are_listed values (array js) = row_is_listed values js
are_listed values _ = false

-- whether the value is among those that are allowed, or an array of such
abbrev pub is_allowed : Option (List Json) → Json → Bool
is_allowed None j = true
is_allowed (Some values) j = is_listed values j || are_listed values j

abbrev pub is_at_least : Option ℤ → ℤ → Bool
is_at_least None z = true
is_at_least (Some least) z = int_le least z

abbrev pub is_at_most : Option ℤ → ℤ → Bool
is_at_most None z = true
is_at_most (Some most) z = int_le z most

abbrev pub is_between : Option ℤ → Option ℤ → ℤ → Bool
is_between least most z = is_at_least least z && is_at_most most z

-- whether a number, or the length of a text (in characters) or of an array, is within the bounds
abbrev pub is_within : Bounds → Json → Bool
is_within b (int z) = is_between b.min_value b.max_value z
is_within b (text s) = is_between b.min_length b.max_length (pos (length s))
is_within b (array js) = is_between b.min_length b.max_length (pos (row_length js))
is_within b _ = true

-- what of the parameter's rule the value breaks first
abbrev pub breach : Parameter → Json → Option Breach
breach p j =
    if is_typed p j then
    (if is_allowed p.allowed_values j then (if is_within p.bounds j then None else Some OutOfBounds)
    else Some NotAllowed)
    else Some WrongType
