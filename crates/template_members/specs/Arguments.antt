-- Why what a nested deployment gives for the parameters of its template is refused.
use Rattle.std.specs.Prelude.{ℕ, ◌||◌, Bool, true, false, List, [], ◌∷◌, Option, Some, codes, if◌then◌else◌}
use Rattle.arm_expr.specs.Brackets.{is_bracketed, is_copy}
use Rattle.arm_value.specs.Json.{Json, array, object, item, Pairs, no_pairs, pair, pair_keys}
use Rattle.arm_value.specs.Look.{is_same_folded}
use Rattle.template_members.specs.Loops.{loops_fault}
use Rattle.template_members.specs.Objects.{every, members_fault, object_fault}
use Rattle.template_members.specs.declared.loops.Owner.TheVariants.{Argument}
use Rattle.template_parts.specs.declared.fault.TemplateFault.{TemplateFault}
use Rattle.template_parts.specs.declared.fault.TemplateFault.TheVariants.{WrongForm}
use Rattle.template_texts.specs.declared.sight.Place.TheVariants.{Elsewhere}
use Rattle.template_texts.specs.declared.sight.Sight.{Sight}
use Rattle.template_values.specs.Values.{value_fault}

-- whether it is an array of one or more items
abbrev pub has_item : Json → Bool
has_item (array (item j js)) = true
has_item _ = false

-- whether a loop gives the value
abbrev pub pairs_loop : Pairs → Bool
pairs_loop no_pairs = false
pairs_loop (pair k j ms) = if is_copy k then has_item j else pairs_loop ms

-- the members that an argument must have: a value, unless a loop gives it
abbrev pub argument_members : Bool → List (List ℕ)
argument_members looped = if looped then [] else codes "value" ∷ []

-- why a member of an argument is refused, where all members have these names
abbrev pub argument_member : Sight → List (List ℕ) → List ℕ → Json → Option TemplateFault
argument_member here names k j =
    if is_copy k then loops_fault here Elsewhere Argument names j
    else (if is_same_folded (codes "value") k then value_fault here Elsewhere j else Some (WrongForm []))

-- why an argument of these members is refused
abbrev pub argument_in : Sight → Pairs → Option TemplateFault
argument_in here ms =
    members_fault (argument_members (pairs_loop ms)) every (argument_member here (pair_keys ms)) ms

-- why an argument is refused: it has a value, which may be given by a loop
abbrev pub argument_fault : Sight → Json → Option TemplateFault
argument_fault here (object ms) = argument_in here ms
argument_fault here _ = Some (WrongForm [])

-- why a member of the arguments is refused: each is an argument, and no loop gives one
abbrev pub arguments_member : Sight → List ℕ → Json → Option TemplateFault
arguments_member here k j = if is_bracketed k || is_copy k then Some (WrongForm []) else argument_fault here j

-- why the arguments of a nested deployment are refused
abbrev pub arguments_fault : Sight → Json → Option TemplateFault
arguments_fault here j = object_fault [] every (arguments_member here) j
