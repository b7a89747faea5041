-- Why a value is refused as a template. Of an object's members the first in byte order of names decides, where a member
-- that is missing counts at its own name; the limits of a template come after all its members.
use Rattle.std.specs.Prelude.{ℕ, zero, ◌+◌, ◌||◌, Bool, false, List, [], ◌∷◌, Option, Some, None, codes, ◌==◌}
use Rattle.std.specs.Prelude.{encode_utf8_all}
use Rattle.std.specs.Prelude.{if◌then◌else◌}
use Rattle.std.specs.Char.{is_ascii_alphanumeric}
use Rattle.std.specs.List.{list_all}
use Rattle.arm_value.specs.Json.{Json, array, object, Row, no_items, item, Pairs, no_pairs, pair}
use Rattle.arm_value.specs.Look.{is_same_folded, look}
use Rattle.resource_members.specs.Members.{member_fault}
use Rattle.resource_members.specs.Settings.{setting_of, is_single, resource_members, is_symbolic}
use Rattle.resource_members.specs.declared.setting.Rank.{Rank}
use Rattle.resource_members.specs.declared.setting.Rank.TheVariants.{Listed, Child, Symbolic}
use Rattle.resource_members.specs.declared.setting.Setting.{Setting}
use Rattle.template_faults.specs.Counts.{count_fault}
use Rattle.template_faults.specs.Header.{template_members, template_member, form_in}
use Rattle.template_faults.specs.Properties.{property_members, property_member, scope_of, place_in}
use Rattle.template_faults.specs.Sights.{sight_of}
use Rattle.template_members.specs.Objects.{every, faulty_by}
use Rattle.template_parts.specs.declared.fault.TemplateFault.{TemplateFault}
use Rattle.template_parts.specs.declared.fault.TemplateFault.TheVariants.{WrongForm}
use Rattle.template_parts.specs.declared.mode.Form.{Form}
use Rattle.template_parts.specs.declared.mode.Form.TheVariants.{One, Two}
use Rattle.template_parts.specs.declared.mode.Scope.{Scope}
use Rattle.template_parts.specs.declared.mode.Scope.TheVariants.{Outer, Inner}
use Rattle.template_texts.specs.declared.sight.Place.{Place}
use Rattle.template_texts.specs.declared.sight.Place.TheVariants.{Variable}
use Rattle.template_texts.specs.declared.sight.Sight.{Sight}
use Rattle.template_values.specs.Order.{to_member, to_item, first_of, then_faults, is_before, missing, decided}
use Rattle.template_values.specs.declared.order.Faulty.{Faulty}
use Rattle.template_values.specs.Values.{text_in, names_with}

-- the fault of the member of a name
abbrev pub named : List ℕ → Option TemplateFault → Option Faulty
named k None = None
named k (Some f) = Some (record { name = k; fault = f })

-- of two members with faults the one whose name comes first in byte order
abbrev pub earlier : Option Faulty → Option Faulty → Option Faulty
earlier None o = o
earlier (Some f) None = Some f
earlier (Some f) (Some g) = if is_before g.name f.name then Some g else Some f

-- whether the byte may be in a symbolic name: a letter or a digit of ASCII, `_` (95) or `:` (58)
abbrev pub is_symbol_byte : ℕ → Bool
is_symbol_byte b = is_ascii_alphanumeric b || (b == 95 || b == 58)

-- whether these are the bytes of a symbolic name
abbrev pub spell_symbol : List ℕ → Bool
spell_symbol [] = false
spell_symbol (b ∷ bs) = list_all is_symbol_byte (b ∷ bs)

-- whether the text is a symbolic name, by its bytes in UTF-8
abbrev pub is_symbol : List ℕ → Bool
is_symbol k = spell_symbol (encode_utf8_all k)

-- a fault of a resource, or of its symbolic name
abbrev pub symbol_fault : List ℕ → Option TemplateFault → Option TemplateFault
symbol_fault k inner = if is_symbol k then inner else Some (WrongForm [])

-- the fault of the resources in one form or the other
abbrev pub by_form : Form → Option TemplateFault → Option TemplateFault → Option TemplateFault
by_form One listed symbolic = listed
by_form Two listed symbolic = symbolic

-- the name of a resource's loop
abbrev pub loop_in : Option Json → Option (List ℕ)
loop_in None = None
loop_in (Some j) = text_in (look (codes "name") j)

abbrev pub resource_loop : Json → Option (List ℕ)
resource_loop j = loop_in (look (codes "copy") j)

-- what the expressions of a nested template see, which has these names of its own
abbrev pub seen_by : Sight → Scope → Sight → Sight
seen_by here Outer own = here
seen_by here Inner own = own

-- why a template of these members is refused, whose resources have this fault
abbrev pub template_by : Sight → Place → Pairs → Option Faulty → Option TemplateFault
template_by here place ms inside =
    first_of
    (decided (missing template_members ms) (earlier (faulty_by every (template_member here place) [] ms) inside))
    (count_fault ms)

-- why a resource of these members is refused, whose children or nested template have this fault
abbrev pub resource_by : Sight → Setting → List (List ℕ) → Pairs → Option Faulty → Option TemplateFault
resource_by here s names ms inside =
    decided (missing (resource_members s.is_deployment) ms)
    (earlier (faulty_by (is_single s) (member_fault here s names) [] ms) inside)

-- why the properties of a nested deployment are refused, whose template has this fault
abbrev pub properties_by : Sight → Pairs → Option Faulty → Option TemplateFault
properties_by here ms inside =
    decided (missing property_members ms) (earlier (faulty_by every (property_member here) [] ms) inside)

abbrev mutual
  -- why a value is refused as a template whose expressions see these names, and whose variables are at the place
  pub template_in : Sight → Place → Json → Option TemplateFault
  template_in here place (object ms) =
      template_by here place ms (resources_of here (form_in ms) ms)
  template_in here place _ = Some (WrongForm [])

  -- the fault of the member `resources` of a template
  pub resources_of : Sight → Form → Pairs → Option Faulty
  resources_of here form no_pairs = None
  resources_of here form (pair k j ms) =
      if is_same_folded (codes "resources") k then named k (by_form form (array_in here Listed j) (symbols_in here j))
      else resources_of here form ms

  -- why a value is refused as an array of resources
  pub array_in : Sight → Rank → Json → Option TemplateFault
  array_in here rank (array js) = row_in here rank [] zero js
  array_in here rank _ = Some (WrongForm [])

  -- of which the first is at the place i, and before which loops have these names
  pub row_in : Sight → Rank → List (List ℕ) → ℕ → Row → Option TemplateFault
  row_in here rank names i no_items = None
  row_in here rank names i (item j js) =
      then_faults (to_item i) (resource_in here rank names j)
      (row_in here rank (names_with names (resource_loop j)) (i + 1) js)

  -- why a value is refused as an object of resources by symbolic names
  pub symbols_in : Sight → Json → Option TemplateFault
  symbols_in here (object ms) = pairs_in here [] ms
  symbols_in here _ = Some (WrongForm [])

  pub pairs_in : Sight → List (List ℕ) → Pairs → Option TemplateFault
  pairs_in here names no_pairs = None
  pairs_in here names (pair k j ms) =
      then_faults (to_member k) (symbol_fault k (resource_in here Symbolic names j))
      (pairs_in here (names_with names (resource_loop j)) ms)

  -- why a value is refused as a resource, where the loops before it have these names
  pub resource_in : Sight → Rank → List (List ℕ) → Json → Option TemplateFault
  resource_in here rank names (object ms) =
      resource_by here (setting_of rank ms) names ms
      (earlier (children_of here (is_symbolic rank) ms) (properties_of here (setting_of rank ms).is_deployment ms))
  resource_in here rank names _ = Some (WrongForm [])

  -- the fault of the children of a resource, which one with a symbolic name has not
  pub children_of : Sight → Bool → Pairs → Option Faulty
  children_of here symbolic no_pairs = None
  children_of here symbolic (pair k j ms) =
      if is_same_folded (codes "resources") k then (if symbolic then None else named k (array_in here Child j))
      else children_of here symbolic ms

  -- the fault of the properties of a nested deployment
  pub properties_of : Sight → Bool → Pairs → Option Faulty
  properties_of here deployment no_pairs = None
  properties_of here deployment (pair k j ms) =
      if is_same_folded (codes "properties") k then (if deployment then named k (properties_in here j) else None)
      else properties_of here deployment ms

  pub properties_in : Sight → Json → Option TemplateFault
  properties_in here (object ms) = properties_by here ms (nested_of here (scope_of ms) ms)
  properties_in here _ = Some (WrongForm [])

  -- the fault of the template of a nested deployment
  pub nested_of : Sight → Scope → Pairs → Option Faulty
  nested_of here scope no_pairs = None
  nested_of here scope (pair k j ms) =
      if is_same_folded (codes "template") k then
      named k (template_in (seen_by here scope (sight_of j)) (place_in scope) j)
      else nested_of here scope ms

-- why a value is refused as a template; none where it is one
abbrev pub template_fault : Json → Option TemplateFault
template_fault j = template_in (sight_of j) Variable j
