-- Why a value that may have expressions and loops in it is refused (Microsoft Learn, "Property iteration in ARM
-- templates").
use Rattle.std.specs.Prelude.{ℕ, zero, ◌+◌, ◌||◌, List, [], ◌∷◌, ◌++◌, Option, Some, None, codes}
use Rattle.std.specs.Prelude.{if◌then◌else◌}
use Rattle.arm_value.specs.Json.{Json, null, bool, int, text, array, object, Row, no_items, item, Pairs, no_pairs, pair}
use Rattle.arm_value.specs.Json.{pair_keys}
use Rattle.arm_value.specs.Look.{is_same_folded, first_by}
use Rattle.arm_expr.specs.Brackets.{is_bracketed, is_copy}
use Rattle.name_set.specs.Names.{is_named, is_listed}
use Rattle.template_parts.specs.declared.fault.TemplateFault.{TemplateFault}
use Rattle.template_parts.specs.declared.fault.TemplateFault.TheVariants.{WrongForm}
use Rattle.template_texts.specs.Texts.{text_fault}
use Rattle.template_texts.specs.declared.sight.Place.{Place}
use Rattle.template_texts.specs.declared.sight.Sight.{Sight}
use Rattle.template_values.specs.Order.{to_member, to_item, then_faults, then_members, missing, decided}
use Rattle.template_values.specs.declared.order.Faulty.{Faulty}

-- the members of a loop, in byte order
abbrev pub loop_members : List (List ℕ)
loop_members = codes "count" ∷ codes "input" ∷ codes "name" ∷ []

-- the text that a value is
abbrev pub text_in : Option Json → Option (List ℕ)
text_in (Some (text t)) = Some t
text_in _ = None

-- the name that a loop gives, where it is a text
abbrev pub loop_name : Json → Option (List ℕ)
loop_name (object ms) = text_in (first_by (is_same_folded (codes "name")) ms)
loop_name _ = None

-- the names with one more, where there is one
abbrev pub names_with : List (List ℕ) → Option (List ℕ) → List (List ℕ)
names_with names None = names
names_with names (Some name) = names ++ name ∷ []

-- why the name of a loop is refused, where the object has these names: it is no text, in brackets, or taken
abbrev pub name_fault : List (List ℕ) → Json → Option TemplateFault
name_fault names (text t) = if is_bracketed t || is_listed names t then Some (WrongForm []) else None
name_fault names _ = Some (WrongForm [])

-- why a member of a loop is refused, by its name: the name of a loop is a text that is new, its count and its input are
-- values, and it has no other member
abbrev pub named_fault : List (List ℕ) → List ℕ → Json → Option TemplateFault → Option TemplateFault
named_fault names k j inner =
    if is_same_folded (codes "name") k then name_fault names j
    else (if is_same_folded (codes "count") k || is_same_folded (codes "input") k then inner else Some (WrongForm []))

-- why a member of a loop is refused, after members of these names
abbrev pub part_fault : List (List ℕ) → List (List ℕ) → List ℕ → Json → Option TemplateFault → Option TemplateFault
part_fault names seen k j inner = if is_named seen k then Some (WrongForm []) else named_fault names k j inner

-- why a member of a value is refused: a name in brackets would be an expression
abbrev pub member_fault : List ℕ → Option TemplateFault → Option TemplateFault → Option TemplateFault
member_fault k loops inner =
    if is_bracketed k then Some (WrongForm []) else (if is_copy k then loops else inner)

abbrev mutual
  -- why a value is refused
  pub value_fault : Sight → Place → Json → Option TemplateFault
  value_fault here place null = None
  value_fault here place (bool b) = None
  value_fault here place (int z) = None
  value_fault here place (text t) = text_fault here place t
  value_fault here place (array js) = items_fault here place zero js
  value_fault here place (object ms) = members_fault here place (pair_keys ms) ms

  -- why items are refused, of which the first is at the place i
  pub items_fault : Sight → Place → ℕ → Row → Option TemplateFault
  items_fault here place i no_items = None
  items_fault here place i (item j js) =
      then_faults (to_item i) (value_fault here place j) (items_fault here place (i + 1) js)

  -- why members of an object with these names are refused
  pub members_fault : Sight → Place → List (List ℕ) → Pairs → Option TemplateFault
  members_fault here place names no_pairs = None
  members_fault here place names (pair k j ms) =
      then_faults (to_member k) (member_fault k (copy_fault here place names j) (value_fault here place j))
      (members_fault here place names ms)

  -- why the member `copy` of an object with these names is refused: it is an array of loops
  pub copy_fault : Sight → Place → List (List ℕ) → Json → Option TemplateFault
  copy_fault here place names (array js) = loops_fault here place names zero js
  copy_fault here place names _ = Some (WrongForm [])

  pub loops_fault : Sight → Place → List (List ℕ) → ℕ → Row → Option TemplateFault
  loops_fault here place names i no_items = None
  loops_fault here place names i (item j js) =
      then_faults (to_item i) (loop_fault here place names j)
      (loops_fault here place (names_with names (loop_name j)) (i + 1) js)

  -- why a loop of an object with these names is refused: it is an object of a name, a count and an input
  pub loop_fault : Sight → Place → List (List ℕ) → Json → Option TemplateFault
  loop_fault here place names (object ms) = decided (missing loop_members ms) (parts_fault here place names [] ms)
  loop_fault here place names _ = Some (WrongForm [])

  pub parts_fault : Sight → Place → List (List ℕ) → List (List ℕ) → Pairs → Option Faulty
  parts_fault here place names seen no_pairs = None
  parts_fault here place names seen (pair k j ms) =
      then_members k (part_fault names seen k j (value_fault here place j))
      (parts_fault here place names (seen ++ k ∷ []) ms)
