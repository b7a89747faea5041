-- Why an object is refused whose members are looked at by their names.
use Rattle.std.specs.Prelude.{ℕ, ◌&&◌, Bool, true, List, [], ◌∷◌, ◌++◌, Option, Some, None, if◌then◌else◌}
use Rattle.arm_value.specs.Json.{Json, object, Pairs, no_pairs, pair}
use Rattle.name_set.specs.Names.{is_named}
use Rattle.template_parts.specs.declared.fault.TemplateFault.{TemplateFault}
use Rattle.template_parts.specs.declared.fault.TemplateFault.TheVariants.{WrongForm}
use Rattle.template_values.specs.Order.{then_members, missing, decided}
use Rattle.template_values.specs.declared.order.Faulty.{Faulty}

-- which names no two members have, in letters of any case
abbrev pub Single : Type 0
Single = List ℕ → Bool

-- no two members have one name
abbrev pub every : Single
every k = true

-- why a member of a name with a value is refused
abbrev pub Rule : Type 0
Rule = List ℕ → Json → Option TemplateFault

-- the same after members of these names
abbrev pub member_by : Single → Rule → List (List ℕ) → List ℕ → Json → Option TemplateFault
member_by single rule seen k j = if single k && is_named seen k then Some (WrongForm []) else rule k j

-- these names, and one more where no two members have it
abbrev pub with_single : Single → List (List ℕ) → List ℕ → List (List ℕ)
with_single single seen k = if single k then seen ++ k ∷ [] else seen

-- the first member that is refused, after members of these names
abbrev pub faulty_by : Single → Rule → List (List ℕ) → Pairs → Option Faulty
faulty_by single rule seen no_pairs = None
faulty_by single rule seen (pair k j ms) =
    then_members k (member_by single rule seen k j) (faulty_by single rule (seen ++ k ∷ []) ms)

-- why members are refused, among which these must be
abbrev pub members_fault : List (List ℕ) → Single → Rule → Pairs → Option TemplateFault
members_fault required single rule ms = decided (missing required ms) (faulty_by single rule [] ms)

-- why a value is refused that must be an object with these members
abbrev pub object_fault : List (List ℕ) → Single → Rule → Json → Option TemplateFault
object_fault required single rule (object ms) = members_fault required single rule ms
object_fault required single rule _ = Some (WrongForm [])
