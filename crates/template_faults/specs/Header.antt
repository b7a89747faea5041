-- Why the members of a template are refused, but for its resources (Microsoft Learn, "Template structure and syntax").
use Rattle.std.specs.Prelude.{ℕ, nat_eq, ◌||◌, bytes_eq, Bool, true, false, List, [], ◌∷◌, Option, Some, None, codes}
use Rattle.std.specs.Prelude.{if◌then◌else◌, encode_utf8_all}
use Rattle.std.specs.List.{ends_with}
use Rattle.arm_value.specs.Json.{Json, text, array, object, no_items, Pairs, no_pairs}
use Rattle.arm_value.specs.Look.{fold, is_same_folded, look_in}
use Rattle.template_members.specs.Outputs.{outputs_fault}
use Rattle.template_members.specs.Parameters.{parameters_fault}
use Rattle.template_members.specs.Variables.{variables_fault}
use Rattle.template_parts.specs.declared.fault.TemplateFault.{TemplateFault}
use Rattle.template_parts.specs.declared.fault.TemplateFault.TheVariants.{WrongForm}
use Rattle.template_parts.specs.declared.mode.Form.{Form}
use Rattle.template_parts.specs.declared.mode.Form.TheVariants.{One, Two}
use Rattle.template_texts.specs.declared.sight.Place.{Place}
use Rattle.template_texts.specs.declared.sight.Sight.{Sight}

-- the members that a template must have, in byte order
abbrev pub template_members : List (List ℕ)
template_members = codes "$schema" ∷ codes "contentVersion" ∷ codes "resources" ∷ []

-- whether the bytes end as the address of a schema does, in small letters
abbrev pub ends_as_schema : List ℕ → Bool
ends_as_schema bs =
    ends_with nat_eq bs (codes "/deploymenttemplate.json") || ends_with nat_eq bs (codes "/deploymenttemplate.json#")

-- whether the text is the address of a schema of templates: in small letters it ends so, with or without a `#`
unfoldable pub is_schema : List ℕ → Bool
is_schema s = ends_as_schema (encode_utf8_all (fold s))

abbrev pub schema_fault : Json → Option TemplateFault
schema_fault (text t) = if is_schema t then None else Some (WrongForm [])
schema_fault _ = Some (WrongForm [])

-- why a value is refused that must be a text
abbrev pub text_fault : Json → Option TemplateFault
text_fault (text t) = None
text_fault _ = Some (WrongForm [])

-- whether a value says that the resources of the template are listed by symbolic names
abbrev pub is_two : Json → Bool
is_two (text t) = bytes_eq (codes "2.0") t
is_two _ = false

-- the form of a template, by its member `languageVersion`
abbrev pub form_of : Option Json → Form
form_of None = One
form_of (Some j) = if is_two j then Two else One

-- the form of a template of these members
abbrev pub form_in : Pairs → Form
form_in ms = form_of (look_in (codes "languageVersion") ms)

abbrev pub language_fault : Json → Option TemplateFault
language_fault j = if is_two j then None else Some (WrongForm [])

-- whether a value is an empty array or an empty object
abbrev pub is_empty : Json → Bool
is_empty (array no_items) = true
is_empty (object no_pairs) = true
is_empty _ = false

abbrev pub functions_fault : Json → Option TemplateFault
functions_fault j = if is_empty j then None else Some (WrongForm [])

-- whether the member is of any form: `metadata` and `apiProfile` are not used, and the resources are looked at
-- elsewhere
abbrev pub is_any : List ℕ → Bool
is_any k =
    is_same_folded (codes "metadata") k
    || (is_same_folded (codes "apiProfile") k || is_same_folded (codes "resources") k)

-- why a member is refused that has the version of the language or functions, or another
abbrev pub other_fault : List ℕ → Json → Option TemplateFault
other_fault k j =
    if is_same_folded (codes "languageVersion") k then language_fault j
    else (if is_same_folded (codes "functions") k then functions_fault j
    else (if is_any k then None else Some (WrongForm [])))

-- why a member is refused that describes the template
unfoldable pub describing_fault : List ℕ → Json → Option TemplateFault
describing_fault k j =
    if is_same_folded (codes "$schema") k then schema_fault j
    else (if is_same_folded (codes "contentVersion") k then text_fault j else other_fault k j)

-- why a member is refused, where defaults and variables are at the place
abbrev pub template_member : Sight → Place → List ℕ → Json → Option TemplateFault
template_member here place k j =
    if is_same_folded (codes "parameters") k then parameters_fault here place j
    else (if is_same_folded (codes "variables") k then variables_fault here place j
    else (if is_same_folded (codes "outputs") k then outputs_fault here j else describing_fault k j))
