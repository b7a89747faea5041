-- Why the loop of a resource is refused (Microsoft Learn, "Resource iteration in ARM templates").
use Rattle.std.specs.Prelude.{ℕ, nat_lt, ◌||◌, bytes_eq, Bool, true, false, ℤ, pos, negsuc, List, [], ◌∷◌, Option, Some}
use Rattle.std.specs.Prelude.{None, codes, if◌then◌else◌}
use Rattle.arm_expr.specs.Brackets.{is_bracketed}
use Rattle.arm_value.specs.Json.{Json, int, text}
use Rattle.arm_value.specs.Look.{is_same_folded}
use Rattle.name_set.specs.Names.{is_named}
use Rattle.resource_members.specs.declared.setting.Rank.{Rank}
use Rattle.resource_members.specs.declared.setting.Rank.TheVariants.{Listed, Child, Symbolic}
use Rattle.resource_members.specs.declared.setting.Setting.{Setting}
use Rattle.template_members.specs.Objects.{every, object_fault}
use Rattle.template_parts.specs.declared.fault.TemplateFault.{TemplateFault}
use Rattle.template_parts.specs.declared.fault.TemplateFault.TheVariants as fault
use Rattle.template_parts.specs.declared.limit.Which.TheVariants as which
use Rattle.template_texts.specs.declared.sight.Place.TheVariants.{Elsewhere}
use Rattle.template_texts.specs.declared.sight.Sight.{Sight}
use Rattle.template_values.specs.Values.{value_fault}

-- why the name of a loop is refused, where the loops before it have these names
abbrev pub loop_name_fault : List (List ℕ) → Json → Option TemplateFault
loop_name_fault names (text t) = if is_bracketed t || is_named names t then Some (fault.WrongForm []) else None
loop_name_fault names _ = Some (fault.WrongForm [])

-- whether the word is `parallel` or `serial`
abbrev pub is_mode : List ℕ → Bool
is_mode t = bytes_eq (codes "parallel") t || bytes_eq (codes "serial") t

abbrev pub mode_fault : Json → Option TemplateFault
mode_fault (text t) = if is_mode t then None else Some (fault.WrongForm [])
mode_fault _ = Some (fault.WrongForm [])

-- why a size of batches is refused: it is a number from 1 to 800
abbrev pub size_fault : ℤ → Option TemplateFault
size_fault (pos n) =
    if nat_lt n 1 then Some (fault.WrongForm [])
    else (if nat_lt 800 n then Some (fault.Limit which.Batch n) else None)
size_fault (negsuc n) = Some (fault.WrongForm [])

abbrev pub batch_fault : Json → Option TemplateFault
batch_fault (int z) = size_fault z
batch_fault _ = Some (fault.WrongForm [])

-- why a member of a loop is refused
abbrev pub copy_member : Sight → List (List ℕ) → List ℕ → Json → Option TemplateFault
copy_member here names k j =
    if is_same_folded (codes "name") k then loop_name_fault names j
    else (if is_same_folded (codes "count") k then value_fault here Elsewhere j
    else (if is_same_folded (codes "mode") k then mode_fault j
    else (if is_same_folded (codes "batchSize") k then batch_fault j else Some (fault.WrongForm []))))

-- why a loop is refused, where the loops before it have these names
abbrev pub loop_fault : Sight → List (List ℕ) → Json → Option TemplateFault
loop_fault here names j = object_fault (codes "count" ∷ codes "name" ∷ []) every (copy_member here names) j

-- whether the resource may have a loop: no child and no parent has one
abbrev pub may_loop : Rank → Bool → Bool
may_loop Listed parent = if parent then false else true
may_loop Child parent = false
may_loop Symbolic parent = true

-- why the loop of a resource is refused, where the loops before it have these names
abbrev pub copy_fault : Sight → Setting → List (List ℕ) → Json → Option TemplateFault
copy_fault here s names j =
    if may_loop s.rank s.is_parent then loop_fault here names j else Some (fault.WrongForm [])
