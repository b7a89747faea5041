-- Why the outputs of a template are refused (Microsoft Learn, "Outputs in ARM templates").
use Rattle.std.specs.Prelude.{ℕ, ◌||◌, Bool, false, List, [], ◌∷◌, Option, Some, None, codes, if◌then◌else◌}
use Rattle.arm_value.specs.Json.{Json, object}
use Rattle.arm_value.specs.Look.{is_same_folded}
use Rattle.template_members.specs.Objects.{every, object_fault}
use Rattle.template_members.specs.Parameters.{kind_fault}
use Rattle.template_parts.specs.declared.fault.TemplateFault.{TemplateFault}
use Rattle.template_parts.specs.declared.fault.TemplateFault.TheVariants.{WrongForm}
use Rattle.template_texts.specs.declared.sight.Place.TheVariants.{Elsewhere}
use Rattle.template_texts.specs.declared.sight.Sight.{Sight}
use Rattle.template_values.specs.Order.{has}
use Rattle.template_values.specs.Values.{value_fault}

-- why a member of an output's loop is refused: it has a count and an input
abbrev pub copy_member : Sight → List ℕ → Json → Option TemplateFault
copy_member here k j =
    if is_same_folded (codes "count") k || is_same_folded (codes "input") k then value_fault here Elsewhere j
    else Some (WrongForm [])

-- why an output's loop is refused
abbrev pub copy_fault : Sight → Json → Option TemplateFault
copy_fault here j = object_fault (codes "count" ∷ codes "input" ∷ []) every (copy_member here) j

-- whether an output has a loop
abbrev pub has_copy : Json → Bool
has_copy (object ms) = has (codes "copy") ms
has_copy _ = false

-- the members that an output must have, in byte order: its type, and a value where it has no loop
abbrev pub output_members : Bool → List (List ℕ)
output_members looped = if looped then codes "type" ∷ [] else codes "type" ∷ codes "value" ∷ []

-- why the value of an output is refused: it has none beside a loop
abbrev pub output_value : Sight → Bool → Json → Option TemplateFault
output_value here looped j = if looped then Some (WrongForm []) else value_fault here Elsewhere j

-- why a member of an output is refused
abbrev pub output_member : Sight → Bool → List ℕ → Json → Option TemplateFault
output_member here looped k j =
    if is_same_folded (codes "type") k then kind_fault j
    else (if is_same_folded (codes "value") k then output_value here looped j
    else (if is_same_folded (codes "copy") k then copy_fault here j
    else (if is_same_folded (codes "condition") k then value_fault here Elsewhere j
    else (if is_same_folded (codes "metadata") k then None else Some (WrongForm [])))))

-- why an output is refused
abbrev pub output_fault : Sight → Json → Option TemplateFault
output_fault here j = object_fault (output_members (has_copy j)) every (output_member here (has_copy j)) j

-- why the outputs of a template are refused
abbrev pub outputs_fault : Sight → Json → Option TemplateFault
outputs_fault here j = object_fault [] every (λ k o. output_fault here o) j
