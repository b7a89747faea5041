-- The fault of a value is never `OutOfMemory`: no definition gives that.
use Rattle.std.proofs.Common.{◌≡◌, ◌||◌, ◌&&◌, ◌+◌, ◌++◌, ℕ, ℤ, pos, negsuc, zero, nat_lt, codes, Bool, true, false}
use Rattle.std.proofs.Common.{List, [], ◌∷◌, Option, Some, None, option_map, if◌then◌else◌, subst}
use Rattle.arm_expr.specs.Brackets.{Meaning, an_expression, plain, meaning, is_bracketed, is_copy}
use Rattle.arm_ids.specs.Members.{is_declaration_member, is_refused_member}
use Rattle.arm_ids.specs.Segments.{has_slash}
use Rattle.arm_value.specs.Json.{Json, null, bool, int, text, array, object, Row, no_items, item, Pairs, no_pairs, pair}
use Rattle.arm_value.specs.Json.{pair_keys}
use Rattle.arm_value.specs.Look.{is_same_folded, look_in}
use Rattle.name_set.specs.Names.{is_named, is_listed}
use Rattle.resource_members.specs.Copies as copies
use Rattle.resource_members.specs.Members as resource
use Rattle.resource_members.specs.Settings.{is_symbolic, is_existence, is_properties, is_single, resource_members}
use Rattle.resource_members.specs.Settings.{setting_of}
use Rattle.resource_members.specs.declared.setting.Rank.{Rank}
use Rattle.resource_members.specs.declared.setting.Rank.TheVariants.{Listed, Child, Symbolic}
use Rattle.resource_members.specs.declared.setting.Setting.{Setting}
use Rattle.template_faults.specs.Counts.{beyond, count_fault, later_count_fault, variables_beyond, resource_count}
use Rattle.template_faults.specs.Counts.{variable_count, member_count}
use Rattle.template_faults.specs.Faults.{named, earlier, symbol_fault, is_symbol, by_form, resource_loop, seen_by}
use Rattle.template_faults.specs.Faults.{template_in, resources_of, array_in}
use Rattle.template_faults.specs.Faults.{row_in, symbols_in, pairs_in, resource_in, children_of, properties_of}
use Rattle.template_faults.specs.Faults.{properties_in, nested_of, template_fault}
use Rattle.template_faults.specs.Header as header
use Rattle.template_faults.specs.Properties as properties
use Rattle.template_faults.specs.Sights.{sight_of}
use Rattle.template_members.specs.Arguments as arguments
use Rattle.template_members.specs.Loops as loops
use Rattle.template_members.specs.Objects.{Single, Rule, every, member_by, faulty_by, object_fault}
use Rattle.template_members.specs.Outputs as outputs
use Rattle.template_members.specs.Parameters as parameters
use Rattle.template_members.specs.Variables as variables
use Rattle.template_members.specs.declared.loops.Owner.{Owner}
use Rattle.template_members.specs.declared.loops.Owner.TheVariants.{Variables, Argument}
use Rattle.template_parts.specs.declared.fault.TemplateFault.{TemplateFault}
use Rattle.template_parts.specs.declared.fault.TemplateFault.TheVariants as fault
use Rattle.template_parts.specs.declared.limit.Which.{Which}
use Rattle.template_parts.specs.declared.limit.Which.TheVariants as which
use Rattle.template_parts.specs.declared.mode.Form.{Form}
use Rattle.template_parts.specs.declared.mode.Form.TheVariants.{One, Two}
use Rattle.template_parts.specs.declared.mode.Scope.{Scope}
use Rattle.template_parts.specs.declared.value_type.ValueType.{ValueType}
use Rattle.template_texts.specs.Sound.{is_sound, has_reference}
use Rattle.template_texts.specs.Texts as texts
use Rattle.template_texts.specs.Texts.{Spelling, too_long, no_expression, too_deep, spelled}
use Rattle.template_texts.specs.declared.sight.Place.{Place}
use Rattle.template_texts.specs.declared.sight.Place.TheVariants.{Variable, Elsewhere}
use Rattle.template_texts.specs.declared.sight.Sight.{Sight}
use Rattle.template_values.specs.Order.{below, to_member, to_item, first_of, then_faults, then_members, missing}
use Rattle.template_values.specs.Order.{is_before}
use Rattle.template_values.specs.Order.{decided}
use Rattle.template_values.specs.Values as values
use Rattle.template_values.specs.declared.order.Faulty.{Faulty}

-- ---- faults that are not `OutOfMemory`

abbrev Proper : Option TemplateFault → Type 0
Proper None = Unit {0}
Proper (Some (fault.Missing p)) = Unit {0}
Proper (Some (fault.WrongForm p)) = Unit {0}
Proper (Some (fault.Limit w n)) = Unit {0}
Proper (Some (fault.BadExpression p)) = Unit {0}
Proper (Some (fault.ReferenceInVariable p)) = Unit {0}
Proper (Some fault.OutOfMemory) = ⊥

abbrev ProperMember : Option Faulty → Type 0
ProperMember None = Unit {0}
ProperMember (Some f) = Proper (Some f.fault)

-- a rule that gives none
abbrev ProperRule : Rule → Type 0
ProperRule rule = (k : List ℕ) (j : Json) → Proper (rule k j)

either : (b : Bool) (x y : Option TemplateFault) → Proper x → Proper y → Proper (if b then x else y)
either true x y p q = p
either false x y p q = q

wrong_or : (b : Bool) (x : Option TemplateFault) → Proper x → Proper (if b then Some (fault.WrongForm []) else x)
wrong_or b x p = either b (Some (fault.WrongForm [])) x tt p

or_wrong : (b : Bool) (x : Option TemplateFault) → Proper x → Proper (if b then x else Some (fault.WrongForm []))
or_wrong b x p = either b x (Some (fault.WrongForm [])) p tt

under : (s : List ℕ) (f : TemplateFault) → Proper (Some f) → Proper (Some (below s f))
under s (fault.Missing p) h = tt
under s (fault.WrongForm p) h = tt
under s (fault.Limit w n) h = tt
under s (fault.BadExpression p) h = tt
under s (fault.ReferenceInVariable p) h = tt
under s fault.OutOfMemory h = absurd h

under_option : (s : List ℕ) (o : Option TemplateFault) → Proper o → Proper (option_map (below s) o)
under_option s None h = tt
under_option s (Some f) h = under s f h

first : (x y : Option TemplateFault) → Proper x → Proper y → Proper (first_of x y)
first None y p q = q
first (Some f) y p q = p

in_turn : (s : List ℕ) (x y : Option TemplateFault) → Proper x → Proper y → Proper (then_faults s x y)
in_turn s x y p q = first (option_map (below s) x) y (under_option s x p) q

member : (k : List ℕ) (x : Option TemplateFault) (y : Option Faulty) → Proper x → ProperMember y
    → ProperMember (then_members k x y)
member k None y p q = q
member k (Some f) y p q = p

of_name : (k : List ℕ) (x : Option TemplateFault) → Proper x → ProperMember (named k x)
of_name k None p = tt
of_name k (Some f) p = p

one_of : (b : Bool) (f g : Faulty) → Proper (Some f.fault) → Proper (Some g.fault)
    → ProperMember (if b then Some g else Some f)
one_of true f g p q = q
one_of false f g p q = p

sooner : (x y : Option Faulty) → ProperMember x → ProperMember y → ProperMember (earlier x y)
sooner None y p q = q
sooner (Some f) None p q = p
sooner (Some f) (Some g) p q = one_of (is_before g.name f.name) f g p q

member_if : (b : Bool) (x y : Option Faulty) → ProperMember x → ProperMember y → ProperMember (if b then x else y)
member_if true x y p q = p
member_if false x y p q = q

whole : (m : Option (List ℕ)) (f : Option Faulty) → ProperMember f → Proper (decided m f)
whole None None p = tt
whole None (Some f) p = under (to_member f.name) f.fault p
whole (Some n) None p = tt
whole (Some n) (Some f) p =
    either (is_before n f.name) (Some (fault.Missing (to_member n))) (Some (below (to_member f.name) f.fault)) tt
    (under (to_member f.name) f.fault p)

each : (single : Single) (rule : Rule) (seen : List (List ℕ)) (ms : Pairs) → ProperRule rule
    → ProperMember (faulty_by single rule seen ms)
each single rule seen no_pairs h = tt
each single rule seen (pair k j ms) h =
    member k (member_by single rule seen k j) (faulty_by single rule (seen ++ k ∷ []) ms)
    (wrong_or (single k && is_named seen k) (rule k j) (h k j)) (each single rule (seen ++ k ∷ []) ms h)

an_object : (required : List (List ℕ)) (single : Single) (rule : Rule) (j : Json) → ProperRule rule
    → Proper (object_fault required single rule j)
an_object required single rule null h = tt
an_object required single rule (bool b) h = tt
an_object required single rule (int z) h = tt
an_object required single rule (text t) h = tt
an_object required single rule (array js) h = tt
an_object required single rule (object ms) h =
    whole (missing required ms) (faulty_by single rule [] ms) (each single rule [] ms h)

-- ---- texts and values

of_spelling : (here : Sight) (place : Place) (t : List ℕ) (s : Spelling) → Proper (texts.spelling_fault here place t s)
of_spelling here place t too_long = tt
of_spelling here place t no_expression = tt
of_spelling here place t too_deep = tt
of_spelling here place t (spelled e) =
    either (is_sound here e)
    (if texts.reads_no_state place && has_reference e then Some (fault.ReferenceInVariable []) else None)
    (Some (fault.BadExpression []))
    (either (texts.reads_no_state place && has_reference e) (Some (fault.ReferenceInVariable [])) None tt tt) tt

of_meaning : (here : Sight) (place : Place) (t : List ℕ) (m : Meaning) → Proper (texts.meaning_fault here place t m)
of_meaning here place t (plain s) = tt
of_meaning here place t an_expression = of_spelling here place t (texts.spelling t)

of_text : (here : Sight) (place : Place) (t : List ℕ) → Proper (texts.text_fault here place t)
of_text here place t =
    either (texts.is_read place) (texts.meaning_fault here place t (meaning t)) None
    (of_meaning here place t (meaning t)) tt

loop_name : (taken : List (List ℕ)) (j : Json) → Proper (values.name_fault taken j)
loop_name taken null = tt
loop_name taken (bool b) = tt
loop_name taken (int z) = tt
loop_name taken (text t) =
    either (is_bracketed t || is_listed taken t) (Some (fault.WrongForm [])) None tt tt
loop_name taken (array js) = tt
loop_name taken (object ms) = tt

loop_part : (taken seen : List (List ℕ)) (k : List ℕ) (j : Json) (inner : Option TemplateFault) → Proper inner
    → Proper (values.part_fault taken seen k j inner)
loop_part taken seen k j inner p =
    wrong_or (is_named seen k) (values.named_fault taken k j inner)
    (either (is_same_folded (codes "name") k) (values.name_fault taken j)
    (if is_same_folded (codes "count") k || is_same_folded (codes "input") k then inner else Some (fault.WrongForm []))
    (loop_name taken j)
    (or_wrong (is_same_folded (codes "count") k || is_same_folded (codes "input") k) inner p))

value_member : (k : List ℕ) (x y : Option TemplateFault) → Proper x → Proper y → Proper (values.member_fault k x y)
value_member k x y p q =
    wrong_or (is_bracketed k) (if is_copy k then x else y) (either (is_copy k) x y p q)

mutual
  of_value : (here : Sight) (place : Place) (j : Json) → Proper (values.value_fault here place j)
  of_value here place null = tt
  of_value here place (bool b) = tt
  of_value here place (int z) = tt
  of_value here place (text t) = of_text here place t
  of_value here place (array js) = of_items here place zero js
  of_value here place (object ms) = of_members here place (pair_keys ms) ms

  of_items : (here : Sight) (place : Place) (i : ℕ) (js : Row) → Proper (values.items_fault here place i js)
  of_items here place i no_items = tt
  of_items here place i (item j js) =
      in_turn (to_item i) (values.value_fault here place j) (values.items_fault here place (i + 1) js)
      (of_value here place j) (of_items here place (i + 1) js)

  of_members : (here : Sight) (place : Place) (taken : List (List ℕ)) (ms : Pairs)
      → Proper (values.members_fault here place taken ms)
  of_members here place taken no_pairs = tt
  of_members here place taken (pair k j ms) =
      in_turn (to_member k)
      (values.member_fault k (values.copy_fault here place taken j) (values.value_fault here place j))
      (values.members_fault here place taken ms)
      (value_member k (values.copy_fault here place taken j) (values.value_fault here place j)
      (of_copy here place taken j) (of_value here place j)) (of_members here place taken ms)

  of_copy : (here : Sight) (place : Place) (taken : List (List ℕ)) (j : Json)
      → Proper (values.copy_fault here place taken j)
  of_copy here place taken null = tt
  of_copy here place taken (bool b) = tt
  of_copy here place taken (int z) = tt
  of_copy here place taken (text t) = tt
  of_copy here place taken (array js) = of_loops here place taken zero js
  of_copy here place taken (object ms) = tt

  of_loops : (here : Sight) (place : Place) (taken : List (List ℕ)) (i : ℕ) (js : Row)
      → Proper (values.loops_fault here place taken i js)
  of_loops here place taken i no_items = tt
  of_loops here place taken i (item j js) =
      in_turn (to_item i) (values.loop_fault here place taken j)
      (values.loops_fault here place (values.names_with taken (values.loop_name j)) (i + 1) js)
      (of_loop here place taken j) (of_loops here place (values.names_with taken (values.loop_name j)) (i + 1) js)

  of_loop : (here : Sight) (place : Place) (taken : List (List ℕ)) (j : Json)
      → Proper (values.loop_fault here place taken j)
  of_loop here place taken null = tt
  of_loop here place taken (bool b) = tt
  of_loop here place taken (int z) = tt
  of_loop here place taken (text t) = tt
  of_loop here place taken (array js) = tt
  of_loop here place taken (object ms) =
      whole (missing values.loop_members ms) (values.parts_fault here place taken [] ms)
      (of_parts here place taken [] ms)

  of_parts : (here : Sight) (place : Place) (taken seen : List (List ℕ)) (ms : Pairs)
      → ProperMember (values.parts_fault here place taken seen ms)
  of_parts here place taken seen no_pairs = tt
  of_parts here place taken seen (pair k j ms) =
      member k (values.part_fault taken seen k j (values.value_fault here place j))
      (values.parts_fault here place taken (seen ++ k ∷ []) ms)
      (loop_part taken seen k j (values.value_fault here place j) (of_value here place j))
      (of_parts here place taken (seen ++ k ∷ []) ms)

-- ---- parameters

no_type : (o : Option ValueType) → Proper (parameters.unless_type o)
no_type None = tt
no_type (Some k) = tt

of_kind : (j : Json) → Proper (parameters.kind_fault j)
of_kind null = tt
of_kind (bool b) = tt
of_kind (int z) = tt
of_kind (text t) = no_type (parameters.type_named t)
of_kind (array js) = tt
of_kind (object ms) = tt

of_int : (j : Json) → Proper (parameters.int_fault j)
of_int null = tt
of_int (bool b) = tt
of_int (int z) = tt
of_int (text t) = tt
of_int (array js) = tt
of_int (object ms) = tt

no_plain : (m : Meaning) → Proper (parameters.unless_plain m)
no_plain (plain s) = tt
no_plain an_expression = tt

mutual
  of_plain : (j : Json) → Proper (parameters.plain_fault j)
  of_plain null = tt
  of_plain (bool b) = tt
  of_plain (int z) = tt
  of_plain (text t) = no_plain (meaning t)
  of_plain (array js) = of_plain_row zero js
  of_plain (object ms) = of_plain_pairs ms

  of_plain_row : (i : ℕ) (js : Row) → Proper (parameters.row_plain_fault i js)
  of_plain_row i no_items = tt
  of_plain_row i (item j js) =
      in_turn (to_item i) (parameters.plain_fault j) (parameters.row_plain_fault (i + 1) js) (of_plain j)
      (of_plain_row (i + 1) js)

  of_plain_pairs : (ms : Pairs) → Proper (parameters.pairs_plain_fault ms)
  of_plain_pairs no_pairs = tt
  of_plain_pairs (pair k j ms) =
      in_turn (to_member k) (parameters.plain_fault j) (parameters.pairs_plain_fault ms) (of_plain j)
      (of_plain_pairs ms)

of_allowed : (j : Json) → Proper (parameters.allowed_fault j)
of_allowed null = tt
of_allowed (bool b) = tt
of_allowed (int z) = tt
of_allowed (text t) = tt
of_allowed (array js) = of_plain_row zero js
of_allowed (object ms) = tt

of_bound : (k : List ℕ) (j : Json) → Proper (parameters.other_fault k j)
unfolding parameters.other_fault
of_bound k j =
    either (parameters.is_bound k) (parameters.int_fault j)
    (if is_same_folded (codes "metadata") k then None else Some (fault.WrongForm [])) (of_int j)
    (or_wrong (is_same_folded (codes "metadata") k) None tt)

of_parameter : (here : Sight) (place : Place) → ProperRule (parameters.parameter_member here place)
of_parameter here place k j =
    either (is_same_folded (codes "type") k) (parameters.kind_fault j) _ (of_kind j)
    (either (is_same_folded (codes "defaultValue") k) (values.value_fault here place j) _ (of_value here place j)
    (either (is_same_folded (codes "allowedValues") k) (parameters.allowed_fault j) (parameters.other_fault k j)
    (of_allowed j) (of_bound k j)))

of_parameters : (here : Sight) (place : Place) (j : Json) → Proper (parameters.parameters_fault here place j)
of_parameters here place j =
    an_object [] every (λ k p. parameters.parameter_fault here place p) j
    (λ k p. an_object (codes "type" ∷ []) every (parameters.parameter_member here place) p (of_parameter here place))

-- ---- outputs

of_output_copy : (here : Sight) → ProperRule (outputs.copy_member here)
of_output_copy here k j =
    or_wrong (is_same_folded (codes "count") k || is_same_folded (codes "input") k)
    (values.value_fault here Elsewhere j) (of_value here Elsewhere j)

of_output : (here : Sight) (looped : Bool) → ProperRule (outputs.output_member here looped)
of_output here looped k j =
    either (is_same_folded (codes "type") k) (parameters.kind_fault j) _ (of_kind j)
    (either (is_same_folded (codes "value") k) (outputs.output_value here looped j) _
    (wrong_or looped (values.value_fault here Elsewhere j) (of_value here Elsewhere j))
    (either (is_same_folded (codes "copy") k) (outputs.copy_fault here j) _
    (an_object (codes "count" ∷ codes "input" ∷ []) every (outputs.copy_member here) j (of_output_copy here))
    (either (is_same_folded (codes "condition") k) (values.value_fault here Elsewhere j) _ (of_value here Elsewhere j)
    (or_wrong (is_same_folded (codes "metadata") k) None tt))))

of_outputs : (here : Sight) (j : Json) → Proper (outputs.outputs_fault here j)
of_outputs here j =
    an_object [] every (λ k o. outputs.output_fault here o) j
    (λ k o. an_object (outputs.output_members (outputs.has_copy o)) every (outputs.output_member here
    (outputs.has_copy o))
    o (of_output here (outputs.has_copy o)))

-- ---- loops, variables and arguments

new_name : (owner : Owner) (taken : List (List ℕ)) (j : Json) → Proper (loops.new_name_fault owner taken j)
new_name owner taken null = tt
new_name owner taken (bool b) = tt
new_name owner taken (int z) = tt
new_name owner taken (text t) =
    wrong_or (is_bracketed t || is_named taken t) (if loops.may_give owner t then None else Some (fault.WrongForm []))
    (or_wrong (loops.may_give owner t) None tt)
new_name owner taken (array js) = tt
new_name owner taken (object ms) = tt

named_loop : (here : Sight) (place : Place) (owner : Owner) (taken : List (List ℕ))
    → ProperRule (loops.loop_member here place owner taken)
named_loop here place owner taken k j =
    either (is_same_folded (codes "name") k) (loops.new_name_fault owner taken j) _ (new_name owner taken j)
    (or_wrong (is_same_folded (codes "count") k || is_same_folded (codes "input") k) (values.value_fault here place j)
    (of_value here place j))

row_loops : (here : Sight) (place : Place) (owner : Owner) (taken : List (List ℕ)) (i : ℕ) (js : Row)
    → Proper (loops.row_loops_fault here place owner taken i js)
row_loops here place owner taken i no_items = tt
row_loops here place owner taken i (item j js) =
    in_turn (to_item i) (loops.loop_fault here place owner taken j)
    (loops.row_loops_fault here place owner (values.names_with taken (values.loop_name j)) (i + 1) js)
    (an_object values.loop_members every (loops.loop_member here place owner taken) j
    (named_loop here place owner taken))
    (row_loops here place owner (values.names_with taken (values.loop_name j)) (i + 1) js)

all_loops : (here : Sight) (place : Place) (owner : Owner) (taken : List (List ℕ)) (j : Json)
    → Proper (loops.loops_fault here place owner taken j)
all_loops here place owner taken null = tt
all_loops here place owner taken (bool b) = tt
all_loops here place owner taken (int z) = tt
all_loops here place owner taken (text t) = tt
all_loops here place owner taken (array js) = row_loops here place owner taken zero js
all_loops here place owner taken (object ms) = tt

of_variable : (here : Sight) (place : Place) (taken : List (List ℕ))
    → ProperRule (variables.variable_member here place taken)
of_variable here place taken k j =
    either (is_copy k) (loops.loops_fault here place Variables taken j) (values.value_fault here place j)
    (all_loops here place Variables taken j) (of_value here place j)

of_variables : (here : Sight) (place : Place) (j : Json) → Proper (variables.variables_fault here place j)
of_variables here place null = tt
of_variables here place (bool b) = tt
of_variables here place (int z) = tt
of_variables here place (text t) = tt
of_variables here place (array js) = tt
of_variables here place (object ms) =
    whole (missing [] ms) (faulty_by every (variables.variable_member here place (pair_keys ms)) [] ms)
    (each every (variables.variable_member here place (pair_keys ms)) [] ms (of_variable here place (pair_keys ms)))

of_argument : (here : Sight) (taken : List (List ℕ)) → ProperRule (arguments.argument_member here taken)
of_argument here taken k j =
    either (is_copy k) (loops.loops_fault here Elsewhere Argument taken j) _
    (all_loops here Elsewhere Argument taken j)
    (or_wrong (is_same_folded (codes "value") k) (values.value_fault here Elsewhere j) (of_value here Elsewhere j))

one_argument : (here : Sight) (j : Json) → Proper (arguments.argument_fault here j)
one_argument here null = tt
one_argument here (bool b) = tt
one_argument here (int z) = tt
one_argument here (text t) = tt
one_argument here (array js) = tt
one_argument here (object ms) =
    whole (missing (arguments.argument_members (arguments.pairs_loop ms)) ms)
    (faulty_by every (arguments.argument_member here (pair_keys ms)) [] ms)
    (each every (arguments.argument_member here (pair_keys ms)) [] ms (of_argument here (pair_keys ms)))

of_arguments : (here : Sight) (j : Json) → Proper (arguments.arguments_fault here j)
of_arguments here j =
    an_object [] every (arguments.arguments_member here) j
    (λ k a. wrong_or (is_bracketed k || is_copy k) (arguments.argument_fault here a) (one_argument here a))

-- ---- members of resources

resource_loop_name : (taken : List (List ℕ)) (j : Json) → Proper (copies.loop_name_fault taken j)
resource_loop_name taken null = tt
resource_loop_name taken (bool b) = tt
resource_loop_name taken (int z) = tt
resource_loop_name taken (text t) =
    either (is_bracketed t || is_named taken t) (Some (fault.WrongForm [])) None tt tt
resource_loop_name taken (array js) = tt
resource_loop_name taken (object ms) = tt

of_mode : (j : Json) → Proper (copies.mode_fault j)
of_mode null = tt
of_mode (bool b) = tt
of_mode (int z) = tt
of_mode (text t) = or_wrong (copies.is_mode t) None tt
of_mode (array js) = tt
of_mode (object ms) = tt

of_size : (z : ℤ) → Proper (copies.size_fault z)
of_size (pos n) =
    wrong_or (nat_lt n 1) (if nat_lt 800 n then Some (fault.Limit which.Batch n) else None)
    (either (nat_lt 800 n) (Some (fault.Limit which.Batch n)) None tt tt)
of_size (negsuc n) = tt

of_batch : (j : Json) → Proper (copies.batch_fault j)
of_batch null = tt
of_batch (bool b) = tt
of_batch (int z) = of_size z
of_batch (text t) = tt
of_batch (array js) = tt
of_batch (object ms) = tt

of_copy_member : (here : Sight) (taken : List (List ℕ)) → ProperRule (copies.copy_member here taken)
of_copy_member here taken k j =
    either (is_same_folded (codes "name") k) (copies.loop_name_fault taken j) _ (resource_loop_name taken j)
    (either (is_same_folded (codes "count") k) (values.value_fault here Elsewhere j) _ (of_value here Elsewhere j)
    (either (is_same_folded (codes "mode") k) (copies.mode_fault j) _ (of_mode j)
    (or_wrong (is_same_folded (codes "batchSize") k) (copies.batch_fault j) (of_batch j))))

of_resource_copy : (here : Sight) (s : Setting) (taken : List (List ℕ)) (j : Json)
    → Proper (copies.copy_fault here s taken j)
of_resource_copy here s taken j =
    or_wrong (copies.may_loop s.rank s.is_parent) (copies.loop_fault here taken j)
    (an_object (codes "count" ∷ codes "name" ∷ []) every (copies.copy_member here taken) j (of_copy_member here taken))

in_brackets : (t : List ℕ) → Proper (resource.bracket_fault t)
in_brackets t = either (is_bracketed t) (Some (fault.WrongForm [])) None tt tt

of_word : (j : Json) → Proper (resource.word_fault j)
of_word null = tt
of_word (bool b) = tt
of_word (int z) = tt
of_word (text t) = in_brackets t
of_word (array js) = tt
of_word (object ms) = tt

of_segment : (rank : Rank) (t : List ℕ) → Proper (resource.segment_fault rank t)
of_segment Listed t = tt
of_segment Child t = either (has_slash t) (Some (fault.WrongForm [])) None tt tt
of_segment Symbolic t = tt

of_type : (rank : Rank) (j : Json) → Proper (resource.type_fault rank j)
of_type rank null = tt
of_type rank (bool b) = tt
of_type rank (int z) = tt
of_type rank (text t) =
    first (resource.bracket_fault t) (resource.segment_fault rank t) (in_brackets t) (of_segment rank t)
of_type rank (array js) = tt
of_type rank (object ms) = tt

of_plain_name : (rank : Rank) (m : Meaning) → Proper (resource.plain_name_fault rank m)
of_plain_name rank (plain t) = of_segment rank t
of_plain_name rank an_expression = tt

of_spelled_name : (rank : Rank) (j : Json) → Proper (resource.spelled_name_fault rank j)
of_spelled_name rank null = tt
of_spelled_name rank (bool b) = tt
of_spelled_name rank (int z) = tt
of_spelled_name rank (text t) = of_plain_name rank (meaning t)
of_spelled_name rank (array js) = tt
of_spelled_name rank (object ms) = tt

of_depends : (here : Sight) (j : Json) → Proper (resource.depends_fault here j)
of_depends here null = tt
of_depends here (bool b) = tt
of_depends here (int z) = tt
of_depends here (text t) = tt
of_depends here (array js) = of_value here Elsewhere (array js)
of_depends here (object ms) = tt

of_existing : (deployment : Bool) (j : Json) → Proper (resource.existing_fault deployment j)
of_existing deployment null = tt
of_existing deployment (bool true) = either deployment (Some (fault.WrongForm [])) None tt tt
of_existing deployment (bool false) = tt
of_existing deployment (int z) = tt
of_existing deployment (text t) = tt
of_existing deployment (array js) = tt
of_existing deployment (object ms) = tt

of_further : (here : Sight) (s : Setting) (taken : List (List ℕ)) → ProperRule (resource.further_fault here s taken)
of_further here s taken k j =
    either (is_same_folded (codes "dependsOn") k) (resource.depends_fault here j) _ (of_depends here j)
    (either (is_same_folded (codes "copy") k) (copies.copy_fault here s taken j) _ (of_resource_copy here s taken j)
    (either (is_same_folded (codes "resources") k) (resource.children_fault s.rank) None
    (either (is_symbolic s.rank) (Some (fault.WrongForm [])) None tt tt) tt))

of_declaring : (here : Sight) (s : Setting) (taken : List (List ℕ))
    → ProperRule (resource.declaring_fault here s taken)
of_declaring here s taken k j =
    either (is_same_folded (codes "type") k) (resource.type_fault s.rank j) _ (of_type s.rank j)
    (either (is_same_folded (codes "apiVersion") k) (resource.word_fault j) _ (of_word j)
    (either (is_same_folded (codes "name") k) (resource.name_fault here s.rank j) _
    (first (values.value_fault here Elsewhere j) (resource.spelled_name_fault s.rank j) (of_value here Elsewhere j)
    (of_spelled_name s.rank j))
    (either (is_same_folded (codes "condition") k) (values.value_fault here Elsewhere j)
    (resource.further_fault here s taken k j) (of_value here Elsewhere j) (of_further here s taken k j))))

of_other : (here : Sight) (s : Setting) → ProperRule (resource.other_fault here s)
of_other here s k j =
    either (is_existence s k) (resource.existing_fault s.is_deployment j) _ (of_existing s.is_deployment j)
    (either (is_properties s k) None (resource.body_fault here k j) tt
    (wrong_or (is_bracketed k) (values.value_fault here Elsewhere j) (of_value here Elsewhere j)))

of_resource_member : (here : Sight) (s : Setting) (taken : List (List ℕ))
    → ProperRule (resource.member_fault here s taken)
of_resource_member here s taken k j =
    wrong_or (is_refused_member k)
    (if is_declaration_member k then resource.declaring_fault here s taken k j else resource.other_fault here s k j)
    (either (is_declaration_member k) (resource.declaring_fault here s taken k j) (resource.other_fault here s k j)
    (of_declaring here s taken k j) (of_other here s k j))

-- ---- members of templates and of nested deployments

of_schema : (j : Json) → Proper (header.schema_fault j)
of_schema null = tt
of_schema (bool b) = tt
of_schema (int z) = tt
of_schema (text t) = or_wrong (header.is_schema t) None tt
of_schema (array js) = tt
of_schema (object ms) = tt

of_version : (j : Json) → Proper (header.text_fault j)
of_version null = tt
of_version (bool b) = tt
of_version (int z) = tt
of_version (text t) = tt
of_version (array js) = tt
of_version (object ms) = tt

of_describing : (k : List ℕ) (j : Json) → Proper (header.describing_fault k j)
unfolding header.describing_fault
of_describing k j =
    either (is_same_folded (codes "$schema") k) (header.schema_fault j) _ (of_schema j)
    (either (is_same_folded (codes "contentVersion") k) (header.text_fault j) (header.other_fault k j) (of_version j)
    (either (is_same_folded (codes "languageVersion") k) (header.language_fault j) _
    (or_wrong (header.is_two j) None tt)
    (either (is_same_folded (codes "functions") k) (header.functions_fault j) _ (or_wrong (header.is_empty j) None tt)
    (or_wrong (header.is_any k) None tt))))

of_template_member : (here : Sight) (place : Place) → ProperRule (header.template_member here place)
of_template_member here place k j =
    either (is_same_folded (codes "parameters") k) (parameters.parameters_fault here place j) _
    (of_parameters here place j)
    (either (is_same_folded (codes "variables") k) (variables.variables_fault here place j) _
    (of_variables here place j)
    (either (is_same_folded (codes "outputs") k) (outputs.outputs_fault here j) (header.describing_fault k j)
    (of_outputs here j) (of_describing k j)))

of_deployment_mode : (j : Json) → Proper (properties.mode_fault j)
of_deployment_mode null = tt
of_deployment_mode (bool b) = tt
of_deployment_mode (int z) = tt
of_deployment_mode (text t) = or_wrong (is_same_folded (codes "Incremental") t) None tt
of_deployment_mode (array js) = tt
of_deployment_mode (object ms) = tt

of_scope : (j : Json) → Proper (properties.scope_fault j)
of_scope null = tt
of_scope (bool b) = tt
of_scope (int z) = tt
of_scope (text t) = or_wrong (properties.is_scope t) None tt
of_scope (array js) = tt
of_scope (object ms) = tt

of_property : (here : Sight) → ProperRule (properties.property_member here)
of_property here k j =
    either (is_same_folded (codes "template") k) None _ tt
    (either (is_same_folded (codes "parameters") k) (arguments.arguments_fault here j) _ (of_arguments here j)
    (either (is_same_folded (codes "mode") k) (properties.mode_fault j) _ (of_deployment_mode j)
    (or_wrong (is_same_folded (codes "expressionEvaluationOptions") k) (properties.options_fault j)
    (an_object [] every properties.option_member j
    (λ l o. or_wrong (is_same_folded (codes "scope") l) (properties.scope_fault o) (of_scope o))))))

-- ---- limits

of_limit : (w : Which) (most n : ℕ) → Proper (beyond w most n)
of_limit w most n = either (nat_lt most n) (Some (fault.Limit w n)) None tt tt

of_counts : (ms : Pairs) → Proper (count_fault ms)
of_counts ms =
    first (beyond which.Outputs 64 (member_count (look_in (codes "outputs") ms))) _
    (of_limit which.Outputs 64 (member_count (look_in (codes "outputs") ms)))
    (first (beyond which.Parameters 256 (member_count (look_in (codes "parameters") ms))) (later_count_fault ms)
    (of_limit which.Parameters 256 (member_count (look_in (codes "parameters") ms)))
    (first (beyond which.Resources 800 (resource_count ms)) (variables_beyond ms)
    (of_limit which.Resources 800 (resource_count ms))
    (of_limit which.Variables 512 (variable_count (look_in (codes "variables") ms)))))

-- ---- templates

of_form : (f : Form) (x y : Option TemplateFault) → Proper x → Proper y → Proper (by_form f x y)
of_form One x y p q = p
of_form Two x y p q = q

mutual
  of_template : (here : Sight) (place : Place) (j : Json) → Proper (template_in here place j)
  of_template here place null = tt
  of_template here place (bool b) = tt
  of_template here place (int z) = tt
  of_template here place (text t) = tt
  of_template here place (array js) = tt
  of_template here place (object ms) =
      let rule = header.template_member here place in
      let inner = resources_of here (header.form_in ms) ms in
      first (decided (missing header.template_members ms) (earlier (faulty_by every rule [] ms) inner)) (count_fault ms)
      (whole (missing header.template_members ms) (earlier (faulty_by every rule [] ms) inner)
      (sooner (faulty_by every rule [] ms) inner (each every rule [] ms (of_template_member here place))
      (of_resources here (header.form_in ms) ms))) (of_counts ms)

  of_resources : (here : Sight) (form : Form) (ms : Pairs) → ProperMember (resources_of here form ms)
  of_resources here form no_pairs = tt
  of_resources here form (pair k j ms) =
      member_if (is_same_folded (codes "resources") k)
      (named k (by_form form (array_in here Listed j) (symbols_in here j))) (resources_of here form ms)
      (of_name k (by_form form (array_in here Listed j) (symbols_in here j))
      (of_form form (array_in here Listed j) (symbols_in here j) (of_array here Listed j) (of_symbols here j)))
      (of_resources here form ms)

  of_array : (here : Sight) (rank : Rank) (j : Json) → Proper (array_in here rank j)
  of_array here rank null = tt
  of_array here rank (bool b) = tt
  of_array here rank (int z) = tt
  of_array here rank (text t) = tt
  of_array here rank (array js) = of_row here rank [] zero js
  of_array here rank (object ms) = tt

  of_row : (here : Sight) (rank : Rank) (taken : List (List ℕ)) (i : ℕ) (js : Row)
      → Proper (row_in here rank taken i js)
  of_row here rank taken i no_items = tt
  of_row here rank taken i (item j js) =
      in_turn (to_item i) (resource_in here rank taken j)
      (row_in here rank (values.names_with taken (resource_loop j)) (i + 1) js) (of_resource here rank taken j)
      (of_row here rank (values.names_with taken (resource_loop j)) (i + 1) js)

  of_symbols : (here : Sight) (j : Json) → Proper (symbols_in here j)
  of_symbols here null = tt
  of_symbols here (bool b) = tt
  of_symbols here (int z) = tt
  of_symbols here (text t) = tt
  of_symbols here (array js) = tt
  of_symbols here (object ms) = of_pairs here [] ms

  of_pairs : (here : Sight) (taken : List (List ℕ)) (ms : Pairs) → Proper (pairs_in here taken ms)
  of_pairs here taken no_pairs = tt
  of_pairs here taken (pair k j ms) =
      in_turn (to_member k) (symbol_fault k (resource_in here Symbolic taken j))
      (pairs_in here (values.names_with taken (resource_loop j)) ms)
      (or_wrong (is_symbol k) (resource_in here Symbolic taken j) (of_resource here Symbolic taken j))
      (of_pairs here (values.names_with taken (resource_loop j)) ms)

  of_resource : (here : Sight) (rank : Rank) (taken : List (List ℕ)) (j : Json) → Proper (resource_in here rank taken j)
  of_resource here rank taken null = tt
  of_resource here rank taken (bool b) = tt
  of_resource here rank taken (int z) = tt
  of_resource here rank taken (text t) = tt
  of_resource here rank taken (array js) = tt
  of_resource here rank taken (object ms) =
      let s = setting_of rank ms in
      let rule = resource.member_fault here s taken in
      let inner = earlier (children_of here (is_symbolic rank) ms) (properties_of here s.is_deployment ms) in
      whole (missing (resource_members s.is_deployment) ms) (earlier (faulty_by (is_single s) rule [] ms) inner)
      (sooner (faulty_by (is_single s) rule [] ms) inner
      (each (is_single s) rule [] ms (of_resource_member here s taken))
      (sooner (children_of here (is_symbolic rank) ms) (properties_of here s.is_deployment ms)
      (of_children here (is_symbolic rank) ms) (of_properties here s.is_deployment ms)))

  of_children : (here : Sight) (symbolic : Bool) (ms : Pairs) → ProperMember (children_of here symbolic ms)
  of_children here symbolic no_pairs = tt
  of_children here symbolic (pair k j ms) =
      member_if (is_same_folded (codes "resources") k)
      (if symbolic then None else named k (array_in here Child j)) (children_of here symbolic ms)
      (member_if symbolic None (named k (array_in here Child j)) tt
      (of_name k (array_in here Child j) (of_array here Child j))) (of_children here symbolic ms)

  of_properties : (here : Sight) (deployment : Bool) (ms : Pairs) → ProperMember (properties_of here deployment ms)
  of_properties here deployment no_pairs = tt
  of_properties here deployment (pair k j ms) =
      member_if (is_same_folded (codes "properties") k)
      (if deployment then named k (properties_in here j) else None) (properties_of here deployment ms)
      (member_if deployment (named k (properties_in here j)) None
      (of_name k (properties_in here j) (of_properties_in here j)) tt) (of_properties here deployment ms)

  of_properties_in : (here : Sight) (j : Json) → Proper (properties_in here j)
  of_properties_in here null = tt
  of_properties_in here (bool b) = tt
  of_properties_in here (int z) = tt
  of_properties_in here (text t) = tt
  of_properties_in here (array js) = tt
  of_properties_in here (object ms) =
      let rule = properties.property_member here in
      let inner = nested_of here (properties.scope_of ms) ms in
      whole (missing properties.property_members ms) (earlier (faulty_by every rule [] ms) inner)
      (sooner (faulty_by every rule [] ms) inner (each every rule [] ms (of_property here))
      (of_nested here (properties.scope_of ms) ms))

  of_nested : (here : Sight) (scope : Scope) (ms : Pairs) → ProperMember (nested_of here scope ms)
  of_nested here scope no_pairs = tt
  of_nested here scope (pair k j ms) =
      member_if (is_same_folded (codes "template") k)
      (named k (template_in (seen_by here scope (sight_of j)) (properties.place_in scope) j))
      (nested_of here scope ms)
      (of_name k (template_in (seen_by here scope (sight_of j)) (properties.place_in scope) j)
      (of_template (seen_by here scope (sight_of j)) (properties.place_in scope) j)) (of_nested here scope ms)

-- the fault of a value is never `OutOfMemory`
pub never_memory : (v : Json) → template_fault v ≡ Some fault.OutOfMemory → ⊥
never_memory v e = subst Proper e (of_template (sight_of v) Variable v)
