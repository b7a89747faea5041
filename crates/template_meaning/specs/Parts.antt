-- The parameters, variables and outputs of a template, and what a nested deployment gives for parameters (Microsoft
-- Learn, "Parameters in ARM templates", "Variables in ARM templates", "Outputs in ARM templates").
use Rattle.std.specs.Prelude.{ℕ, ◌++◌, chars, codes, bytes_eq, Bool, List, [], ◌∷◌, map, Option, Some, None, option_map}
use Rattle.std.specs.Prelude.{if◌then◌else◌}
use Rattle.arm_value.specs.Json.{Json, Member}
use Rattle.plain_values.specs.Plain.{meant}
use Rattle.template_parts.specs.declared.content.Argument.{Argument}
use Rattle.template_parts.specs.declared.content.Content.{Content}
use Rattle.template_parts.specs.declared.content.Content.TheVariants as content
use Rattle.template_parts.specs.declared.output.Output.{Output}
use Rattle.template_parts.specs.declared.parameter.Bounds.{Bounds}
use Rattle.template_parts.specs.declared.parameter.Parameter.{Parameter}
use Rattle.template_parts.specs.declared.value_type.ValueType.{ValueType}
use Rattle.template_parts.specs.declared.value_type.ValueType.TheVariants as type
use Rattle.template_parts.specs.declared.variable.Variable.{Variable}
use Rattle.template_meaning.specs.Values.{Place, inside, optional, value_in, text_in, number_in, items_in, members_in}
use Rattle.template_meaning.specs.Values.{is_word}

-- the type that a word names, in letters of any case
abbrev pub type_in : Place → ValueType
type_in o =
    if is_word (codes "securestring") o then type.SecureString
    else (if is_word (codes "int") o then type.Int
    else (if is_word (codes "bool") o then type.Bool
    else (if is_word (codes "object") o then type.Object
    else (if is_word (codes "secureobject") o then type.SecureObject
    else (if is_word (codes "array") o then type.Array else type.String)))))

-- ---- parameters

abbrev pub bounds_of : Place → Bounds
bounds_of o = record {
  min_value = number_in (inside (codes "minValue") o);
  max_value = number_in (inside (codes "maxValue") o);
  min_length = number_in (inside (codes "minLength") o);
  max_length = number_in (inside (codes "maxLength") o);
}

-- the values that are allowed, each text as it is meant
abbrev pub allowed_in : Place → Option (List Json)
allowed_in o = option_map (λ j. map meant (items_in (Some j))) o

abbrev pub parameter_by : List ℕ → Place → Parameter
parameter_by name o = record {
  name = name;
  kind = type_in (inside (codes "type") o);
  default_value = optional (inside (codes "defaultValue") o);
  allowed_values = allowed_in (inside (codes "allowedValues") o);
  bounds = bounds_of o;
  metadata = optional (inside (codes "metadata") o);
}

abbrev pub parameter_of : Member → Parameter
parameter_of m = parameter_by m.0 (Some m.1)

-- ---- loops that give a variable, an output or an argument

-- whether a member of this name makes loops
abbrev pub is_copy : List ℕ → Bool
is_copy name = bytes_eq (chars (codes "copy")) name

-- the members that make no loop
abbrev pub unlooped : List Member → List Member
unlooped [] = []
unlooped (m ∷ ms) = if is_copy m.0 then unlooped ms else m ∷ unlooped ms

-- the member that makes loops
abbrev pub copies_in : List Member → Place
copies_in [] = None
copies_in (m ∷ ms) = if is_copy m.0 then Some m.1 else copies_in ms

-- what a loop with a count and an input gives
abbrev pub loop_of : Place → Content
loop_of o = content.Copy (value_in (inside (codes "count") o)) (value_in (inside (codes "input") o))

-- what the loop gives, where there is one, else the member `value`
abbrev pub content_by : Place → Place → Content
content_by None o = content.Value (value_in (inside (codes "value") o))
content_by (Some c) o = loop_of (Some c)

-- ---- variables

abbrev pub variable_of : Member → Variable
variable_of m = record { name = m.0; content = content.Value (value_in (Some m.1)) }

abbrev pub looped_variable : Json → Variable
looped_variable j = record { name = text_in (inside (codes "name") (Some j)); content = loop_of (Some j) }

-- the variables of an object: its members, and then what its loops give
abbrev pub variables_of : List Member → List Variable
variables_of ms = map variable_of (unlooped ms) ++ map looped_variable (items_in (copies_in ms))

-- ---- outputs

abbrev pub output_by : List ℕ → Place → Output
output_by name o = record {
  name = name;
  kind = type_in (inside (codes "type") o);
  content = content_by (inside (codes "copy") o) o;
  condition = optional (inside (codes "condition") o);
  metadata = optional (inside (codes "metadata") o);
}

abbrev pub output_of : Member → Output
output_of m = output_by m.0 (Some m.1)

-- ---- arguments

-- the first of the items
abbrev pub first_in : List Json → Place
first_in [] = None
first_in (j ∷ js) = Some j

-- an argument; a loop that gives its value is the one loop of the argument, and has the name `value`
abbrev pub argument_of : Member → Argument
argument_of m = record {
  name = m.0;
  content = content_by (first_in (items_in (copies_in (members_in (Some m.1))))) (Some m.1);
}
