-- Why the parameters of a template are refused (Microsoft Learn, "Parameters in ARM templates").
use Rattle.std.specs.Prelude.{ℕ, zero, ◌+◌, ◌||◌, Bool, List, [], ◌∷◌, Option, Some, None, codes, if◌then◌else◌}
use Rattle.arm_expr.specs.Brackets.{Meaning, an_expression, plain, meaning}
use Rattle.arm_value.specs.Json.{Json, null, bool, int, text, array, object, Row, no_items, item, Pairs, no_pairs, pair}
use Rattle.arm_value.specs.Look.{is_same_folded}
use Rattle.template_members.specs.Objects.{every, object_fault}
use Rattle.template_parts.specs.declared.fault.TemplateFault.{TemplateFault}
use Rattle.template_parts.specs.declared.fault.TemplateFault.TheVariants.{WrongForm}
use Rattle.template_parts.specs.declared.value_type.ValueType.{ValueType}
use Rattle.template_parts.specs.declared.value_type.ValueType.TheVariants as type
use Rattle.template_texts.specs.declared.sight.Place.{Place}
use Rattle.template_texts.specs.declared.sight.Sight.{Sight}
use Rattle.template_values.specs.Order.{to_member, to_item, then_faults}
use Rattle.template_values.specs.Values.{value_fault}

-- the type of texts, of objects, or of other values that a word names, in letters of any case
abbrev pub text_type : List ℕ → Option ValueType
text_type t =
    if is_same_folded (codes "string") t then Some type.String
    else (if is_same_folded (codes "securestring") t then Some type.SecureString else None)

abbrev pub object_type : List ℕ → Option ValueType
object_type t =
    if is_same_folded (codes "object") t then Some type.Object
    else (if is_same_folded (codes "secureObject") t then Some type.SecureObject else None)

abbrev pub other_type : List ℕ → Option ValueType
other_type t =
    if is_same_folded (codes "int") t then Some type.Int
    else (if is_same_folded (codes "bool") t then Some type.Bool
    else (if is_same_folded (codes "array") t then Some type.Array else None))

abbrev pub first_type : Option ValueType → Option ValueType → Option ValueType
first_type (Some kind) o = Some kind
first_type None o = o

-- the type of a word
abbrev pub type_named : List ℕ → Option ValueType
type_named t = first_type (text_type t) (first_type (object_type t) (other_type t))

-- a fault where there is no type
abbrev pub unless_type : Option ValueType → Option TemplateFault
unless_type (Some kind) = None
unless_type None = Some (WrongForm [])

-- why a value is refused that must be the word for a type
abbrev pub kind_fault : Json → Option TemplateFault
kind_fault (text t) = unless_type (type_named t)
kind_fault _ = Some (WrongForm [])

-- why a value is refused that must be a number
abbrev pub int_fault : Json → Option TemplateFault
int_fault (int z) = None
int_fault _ = Some (WrongForm [])

-- a fault where a text is an expression
abbrev pub unless_plain : Meaning → Option TemplateFault
unless_plain (plain s) = None
unless_plain an_expression = Some (WrongForm [])

abbrev pub plain_text_fault : List ℕ → Option TemplateFault
plain_text_fault t = unless_plain (meaning t)

-- why a value is refused that must have no expression in it; the names of members are plain
abbrev mutual
  pub plain_fault : Json → Option TemplateFault
  plain_fault null = None
  plain_fault (bool b) = None
  plain_fault (int z) = None
  plain_fault (text t) = plain_text_fault t
  plain_fault (array js) = row_plain_fault zero js
  plain_fault (object ms) = pairs_plain_fault ms

  pub row_plain_fault : ℕ → Row → Option TemplateFault
  row_plain_fault i no_items = None
  row_plain_fault i (item j js) = then_faults (to_item i) (plain_fault j) (row_plain_fault (i + 1) js)

  pub pairs_plain_fault : Pairs → Option TemplateFault
  pairs_plain_fault no_pairs = None
  pairs_plain_fault (pair k j ms) = then_faults (to_member k) (plain_fault j) (pairs_plain_fault ms)

-- why a value is refused that must be an array of allowed values
abbrev pub allowed_fault : Json → Option TemplateFault
allowed_fault (array js) = row_plain_fault zero js
allowed_fault _ = Some (WrongForm [])

-- whether the member bounds a value or its length
abbrev pub is_bound : List ℕ → Bool
is_bound k =
    (is_same_folded (codes "minValue") k || is_same_folded (codes "maxValue") k)
    || is_same_folded (codes "minLength") k || is_same_folded (codes "maxLength") k

-- why a bound, or another member of a parameter, is refused
unfoldable pub other_fault : List ℕ → Json → Option TemplateFault
other_fault k j =
    if is_bound k then int_fault j
    else (if is_same_folded (codes "metadata") k then None else Some (WrongForm []))

-- why a member of a parameter is refused, whose default is at the place
abbrev pub parameter_member : Sight → Place → List ℕ → Json → Option TemplateFault
parameter_member here place k j =
    if is_same_folded (codes "type") k then kind_fault j
    else (if is_same_folded (codes "defaultValue") k then value_fault here place j
    else (if is_same_folded (codes "allowedValues") k then allowed_fault j else other_fault k j))

-- why a parameter is refused
abbrev pub parameter_fault : Sight → Place → Json → Option TemplateFault
parameter_fault here place j = object_fault (codes "type" ∷ []) every (parameter_member here place) j

-- why the parameters of a template are refused
abbrev pub parameters_fault : Sight → Place → Json → Option TemplateFault
parameters_fault here place j = object_fault [] every (λ k p. parameter_fault here place p) j
