-- Why loops are refused that give a name of their own to variables, or the value to an argument of a nested deployment.
use Rattle.std.specs.Prelude.{ℕ, zero, ◌+◌, ◌||◌, Bool, true, List, [], Option, Some, None, codes}
use Rattle.std.specs.Prelude.{if◌then◌else◌}
use Rattle.arm_expr.specs.Brackets.{is_bracketed}
use Rattle.arm_value.specs.Json.{Json, text, array, Row, no_items, item}
use Rattle.arm_value.specs.Look.{is_same_folded}
use Rattle.name_set.specs.Names.{is_named}
use Rattle.template_members.specs.Objects.{every, object_fault}
use Rattle.template_members.specs.declared.loops.Owner.{Owner}
use Rattle.template_members.specs.declared.loops.Owner.TheVariants.{Variables, Argument}
use Rattle.template_parts.specs.declared.fault.TemplateFault.{TemplateFault}
use Rattle.template_parts.specs.declared.fault.TemplateFault.TheVariants.{WrongForm}
use Rattle.template_texts.specs.declared.sight.Place.{Place}
use Rattle.template_texts.specs.declared.sight.Sight.{Sight}
use Rattle.template_values.specs.Order.{to_item, then_faults}
use Rattle.template_values.specs.Values.{value_fault, loop_members, loop_name, names_with}

-- whether a loop there may give this name: among the variables any, and in an argument its value alone
abbrev pub may_give : Owner → List ℕ → Bool
may_give Variables t = true
may_give Argument t = is_same_folded (codes "value") t

-- why the name of a loop is refused, where these names are taken in letters of any case
abbrev pub new_name_fault : Owner → List (List ℕ) → Json → Option TemplateFault
new_name_fault owner names (text t) =
    if is_bracketed t || is_named names t then Some (WrongForm [])
    else (if may_give owner t then None else Some (WrongForm []))
new_name_fault owner names _ = Some (WrongForm [])

-- why a member of a loop is refused
abbrev pub loop_member : Sight → Place → Owner → List (List ℕ) → List ℕ → Json → Option TemplateFault
loop_member here place owner names k j =
    if is_same_folded (codes "name") k then new_name_fault owner names j
    else (if is_same_folded (codes "count") k || is_same_folded (codes "input") k then value_fault here place j
    else Some (WrongForm []))

-- why a loop is refused: it is an object of a name, a count and an input
abbrev pub loop_fault : Sight → Place → Owner → List (List ℕ) → Json → Option TemplateFault
loop_fault here place owner names j = object_fault loop_members every (loop_member here place owner names) j

-- why loops are refused, of which the first is at the place i; each takes a name
abbrev pub row_loops_fault : Sight → Place → Owner → List (List ℕ) → ℕ → Row → Option TemplateFault
row_loops_fault here place owner names i no_items = None
row_loops_fault here place owner names i (item j js) =
    then_faults (to_item i) (loop_fault here place owner names j)
    (row_loops_fault here place owner (names_with names (loop_name j)) (i + 1) js)

-- why a value is refused that must be an array of loops
abbrev pub loops_fault : Sight → Place → Owner → List (List ℕ) → Json → Option TemplateFault
loops_fault here place owner names (array js) = row_loops_fault here place owner names zero js
loops_fault here place owner names _ = Some (WrongForm [])
