-- How the parts of a template are written, each member under its canonical name.
use Rattle.std.specs.Prelude.{ℕ, pos, ◌++◌, chars, codes, List, [], ◌∷◌, map, Option, Some, None, option_map}
use Rattle.std.specs.Prelude.{Bool, true, false}
use Rattle.arm_value.specs.Json.{Json, bool, int, text, array, Member, row}
use Rattle.arm_value.specs.View.{json}
use Rattle.plain_values.specs.Plain.{written_plainly}
use Rattle.template_parts.specs.declared.content.Argument.{Argument}
use Rattle.template_parts.specs.declared.content.Content.{Content}
use Rattle.template_parts.specs.declared.content.Content.TheVariants as content
use Rattle.template_parts.specs.declared.declaration.Declaration.{Declaration}
use Rattle.template_parts.specs.declared.looping.Batches.{Batches}
use Rattle.template_parts.specs.declared.looping.Batches.TheVariants.{Parallel, Serial}
use Rattle.template_parts.specs.declared.looping.ResourceCopy.{ResourceCopy}
use Rattle.template_parts.specs.declared.output.Output.{Output}
use Rattle.template_parts.specs.declared.parameter.Parameter.{Parameter}
use Rattle.template_parts.specs.declared.value_type.ValueType.{ValueType}
use Rattle.template_parts.specs.declared.value_type.ValueType.TheVariants as type
use Rattle.template_parts.specs.declared.variable.Variable.{Variable}
use Rattle.template_written.specs.Slots.{Slot, put_slots, an_object, word, array_unless_empty}

abbrev pub type_word : ValueType → List ℕ
type_word type.String = codes "string"
type_word type.SecureString = codes "securestring"
type_word type.Int = codes "int"
type_word type.Bool = codes "bool"
type_word type.Object = codes "object"
type_word type.SecureObject = codes "secureObject"
type_word type.Array = codes "array"

-- ---- parameters

abbrev pub parameter_slots : Parameter → List Slot
parameter_slots p =
    (codes "type", Some (word (type_word p.kind)))
    ∷ (codes "defaultValue", option_map json p.default_value)
    ∷ (codes "allowedValues", option_map (λ js. array (row (map written_plainly js))) p.allowed_values)
    ∷ (codes "minValue", option_map int p.bounds.min_value)
    ∷ (codes "maxValue", option_map int p.bounds.max_value)
    ∷ (codes "minLength", option_map int p.bounds.min_length)
    ∷ (codes "maxLength", option_map int p.bounds.max_length)
    ∷ (codes "metadata", option_map json p.metadata)
    ∷ []

abbrev pub written_parameter : Parameter → Member
written_parameter p = (p.name, an_object (parameter_slots p))

-- ---- what loops give

abbrev pub value_slot : Content → Option Json
value_slot (content.Value v) = Some (json v)
value_slot (content.Copy count input) = None

abbrev pub loop_slots : Json → Json → List Slot
loop_slots count input = (codes "count", Some count) ∷ (codes "input", Some input) ∷ []

-- a loop that gives a member of the name
abbrev pub named_loop : List ℕ → Json → Json → Json
named_loop name count input = an_object ((codes "name", Some (text name)) ∷ loop_slots count input)

-- ---- variables

abbrev pub plain_before : List ℕ → Content → List Member → List Member
plain_before name (content.Value v) ms = (name, json v) ∷ ms
plain_before name (content.Copy count input) ms = ms

-- the variables that no loop gives
abbrev pub plain_variables : List Variable → List Member
plain_variables [] = []
plain_variables (v ∷ vs) = plain_before v.name v.content (plain_variables vs)

abbrev pub loop_before : List ℕ → Content → List Json → List Json
loop_before name (content.Value v) js = js
loop_before name (content.Copy count input) js = named_loop name (json count) (json input) ∷ js

-- the loops that give the others
abbrev pub variable_loops : List Variable → List Json
variable_loops [] = []
variable_loops (v ∷ vs) = loop_before v.name v.content (variable_loops vs)

abbrev pub written_variables : List Variable → List Member
written_variables vs =
    put_slots ((codes "copy", array_unless_empty (variable_loops vs)) ∷ []) (plain_variables vs)

-- ---- outputs

abbrev pub output_loop : Content → Option Json
output_loop (content.Value v) = None
output_loop (content.Copy count input) = Some (an_object (loop_slots (json count) (json input)))

abbrev pub output_slots : Output → List Slot
output_slots o =
    (codes "type", Some (word (type_word o.kind)))
    ∷ (codes "value", value_slot o.content)
    ∷ (codes "copy", output_loop o.content)
    ∷ (codes "condition", option_map json o.condition)
    ∷ (codes "metadata", option_map json o.metadata)
    ∷ []

abbrev pub written_output : Output → Member
written_output o = (o.name, an_object (output_slots o))

-- ---- arguments

-- the loop that gives the value of an argument
abbrev pub value_loop : Json → Json → Json
value_loop count input = named_loop (chars (codes "value")) count input

abbrev pub loop_argument : Json → Json → Option Json
loop_argument count input = Some (array (row (value_loop count input ∷ [])))

abbrev pub argument_loop : Content → Option Json
argument_loop (content.Value v) = None
argument_loop (content.Copy count input) = loop_argument (json count) (json input)

abbrev pub argument_slots : Content → List Slot
argument_slots c = (codes "value", value_slot c) ∷ (codes "copy", argument_loop c) ∷ []

abbrev pub written_argument : Argument → Member
written_argument a = (a.name, an_object (argument_slots a.content))

-- ---- what declares a resource

abbrev pub mode_of : Batches → Option Json
mode_of Parallel = None
mode_of (Serial n) = Some (word (codes "serial"))

abbrev pub size_of : Batches → Option Json
size_of Parallel = None
size_of (Serial n) = Some (int (pos n))

abbrev pub copy_slots : ResourceCopy → List Slot
copy_slots c =
    (codes "name", Some (text c.name)) ∷ (codes "count", Some (json c.count)) ∷ (codes "mode", mode_of c.batches)
    ∷ (codes "batchSize", size_of c.batches) ∷ []

abbrev pub true_or_none : Bool → Option Json
true_or_none true = Some (bool true)
true_or_none false = None

-- what declares a resource
abbrev pub part_slots : Declaration → List Slot
part_slots d =
    (codes "type", Some (text d.kind))
    ∷ (codes "apiVersion", Some (text d.api_version))
    ∷ (codes "name", Some (json d.name))
    ∷ (codes "condition", option_map json d.condition)
    ∷ (codes "dependsOn", array_unless_empty d.depends_on)
    ∷ (codes "copy", option_map (λ c. an_object (copy_slots c)) d.copy)
    ∷ (codes "metadata", option_map json d.metadata)
    ∷ (codes "existing", true_or_none d.existing)
    ∷ []

-- what declares a resource, and its children
abbrev pub declaration_slots : Declaration → List Json → List Slot
declaration_slots d children = part_slots d ++ (codes "resources", array_unless_empty children) ∷ []
