-- Why the variables of a template are refused (Microsoft Learn, "Variables in ARM templates").
use Rattle.std.specs.Prelude.{ℕ, List, [], Option, Some, if◌then◌else◌}
use Rattle.arm_value.specs.Json.{Json, object, pair_keys}
use Rattle.template_members.specs.Loops.{loops_fault}
use Rattle.template_members.specs.Objects.{every, members_fault}
use Rattle.template_members.specs.declared.loops.Owner.TheVariants.{Variables}
use Rattle.template_parts.specs.declared.fault.TemplateFault.{TemplateFault}
use Rattle.template_parts.specs.declared.fault.TemplateFault.TheVariants.{WrongForm}
use Rattle.template_texts.specs.declared.sight.Place.{Place}
use Rattle.template_texts.specs.declared.sight.Sight.{Sight}
use Rattle.template_values.specs.Values.{value_fault}
use Rattle.arm_expr.specs.Brackets.{is_copy}

-- why a member of the variables is refused, of which all have these names: `copy` has loops that give further
-- variables, and every other member is a variable
abbrev pub variable_member : Sight → Place → List (List ℕ) → List ℕ → Json → Option TemplateFault
variable_member here place names k j =
    if is_copy k then loops_fault here place Variables names j else value_fault here place j

-- why the variables of a template are refused
abbrev pub variables_fault : Sight → Place → Json → Option TemplateFault
variables_fault here place (object ms) = members_fault [] every (variable_member here place (pair_keys ms)) ms
variables_fault here place _ = Some (WrongForm [])
