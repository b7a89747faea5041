-- The names in a template that has no fault, and in all templates inside.
use Rattle.std.proofs.Common.{◌≡◌, ◌||◌, ◌+◌, ℕ, chars, codes, Bool, true, false, List, [], ◌∷◌, map}
use Rattle.std.proofs.Common.{Option, Some, None, refl, sym, ap, ap₂, ◌∙◌, subst, arith, if◌then◌else◌}
use Rattle.std.specs.Char.{to_ascii_lowercase}
use Rattle.std.proofs.lemmas.Bool.Decides.{nat_tests}
use Rattle.arm_ids.specs.Members.{is_deployment_type, is_declaration_member, is_refused_member}
use Rattle.arm_ids.specs.Segments.{is_slash, has_slash}
use Rattle.arm_value.specs.Json.{Json, null, bool, int, text, array, object, Row, no_items, item, items}
use Rattle.arm_value.specs.Json.{Pairs, no_pairs, pair, members, pair_keys}
use Rattle.arm_value.specs.Look.{fold, is_same_folded, first_by, look_in}
use Rattle.arm_template.specs.States.{IsStated}
use Rattle.foundation.proofs.AsciiWords as ascii
use Rattle.plan_cells.specs.Children.{HasOwnNames, NamesDiffer, TreesNamesDiffer, TreeNamesDiffer, BodyNamesDiffer}
use Rattle.resource_members.specs.Members.{type_fault, children_fault, member_fault, bracket_fault, segment_fault}
use Rattle.resource_members.specs.Settings.{has_deployment_type, setting_of, is_symbolic, is_single, resource_members}
use Rattle.resource_members.specs.declared.setting.Rank.{Rank}
use Rattle.resource_members.specs.declared.setting.Rank.TheVariants.{Listed, Child, Symbolic}
use Rattle.template_faults.specs.Counts.{count_fault}
use Rattle.template_faults.specs.Faults.{named, earlier, symbol_fault, is_symbol, by_form, resource_loop, seen_by}
use Rattle.template_faults.specs.Faults.{template_in, resources_of, array_in, row_in, symbols_in, pairs_in}
use Rattle.template_faults.specs.Faults.{resource_in, children_of, properties_of, properties_in, nested_of}
use Rattle.template_faults.specs.Header.{template_members, template_member, form_in}
use Rattle.template_faults.specs.Properties.{property_members, property_member, scope_of, place_in}
use Rattle.template_faults.specs.Sights.{sight_of}
use Rattle.template_meaning.specs.Describes as describes
use Rattle.template_meaning.specs.Describes.{DescribesTemplate, DescribesResource, DescribesBody}
use Rattle.template_meaning.specs.Describes.{DescribesResources}
use Rattle.template_meaning.specs.Resources as meaning
use Rattle.template_meaning.specs.Values.{inside, is_word}
use Rattle.template_members.specs.Objects.{every, faulty_by}
use Rattle.template_parts.specs.declared.declaration.Declaration.{Declaration}
use Rattle.template_parts.specs.declared.fault.TemplateFault.{TemplateFault}
use Rattle.template_parts.specs.declared.fault.TemplateFault.TheVariants.{WrongForm}
use Rattle.template_parts.specs.declared.mode.Form.{Form}
use Rattle.template_parts.specs.declared.mode.Form.TheVariants.{One, Two}
use Rattle.template_parts.specs.declared.mode.Scope.{Scope}
use Rattle.template_texts.specs.declared.sight.Place.{Place}
use Rattle.template_texts.specs.declared.sight.Place.TheVariants.{Variable}
use Rattle.template_texts.specs.declared.sight.Sight.{Sight}
use Rattle.template_tree.specs.Tree.{Header, TemplateTree, template, ResourceTree, resource, BodyTree, body_members}
use Rattle.template_tree.specs.Tree.{deployment, Trees, no_resources, a_resource}
use Rattle.template_values.specs.Order.{missing, decided, to_item, to_member}
use Rattle.template_values.specs.Values.{names_with}
use Rattle.arm_template.proofs.HeaderLemmas.{form_read}
use Rattle.arm_template.proofs.NestedLemmas.{single_found}
use Rattle.written_parts.proofs.FaultLemmas.{Holds, first_none, decided_none, earlier_none, named_none}
use Rattle.written_parts.proofs.FaultLemmas.{then_none, Apart, Sound, faulty_none, found_accepted, same_fold}
use Rattle.written_resources.proofs.BodyLemmas.{first_children_of, first_properties_of, declared_found}
use Rattle.written_resources.proofs.BodyLemmas.{properties_found, look_inside}
use Rattle.written_resources.proofs.ResourceLemmas.{declared_at}
use Rattle.stated_names.proofs.HeaderNames.{own_names, no_names}

-- ---- what is shown of each part

-- the value is not refused as a template
abbrev IsTemplate : Json → Type 0
IsTemplate j = (here : Sight) × ((place : Place) × (template_in here place j ≡ None))

abbrev TemplateNamed : TemplateTree → Type 0
TemplateNamed t = (o : Option Json) → Holds IsTemplate o → DescribesTemplate o t → NamesDiffer t

-- of resources in an array, and by symbolic names
abbrev RowNamed : Trees → Type 0
RowNamed rs =
    (here : Sight) (rank : Rank) (taken : List (List ℕ)) (i : ℕ) (js : Row) → row_in here rank taken i js ≡ None
    → DescribesResources (map (λ j. (None, j)) (items js)) rs → TreesNamesDiffer rs

abbrev PairsNamed : Trees → Type 0
PairsNamed rs =
    (here : Sight) (taken : List (List ℕ)) (ms : Pairs) → pairs_in here taken ms ≡ None
    → DescribesResources (map (λ m. (Some m.0, m.1)) (members ms)) rs → TreesNamesDiffer rs

abbrev ResourceNamed : ResourceTree → Type 0
ResourceNamed r =
    (here : Sight) (rank : Rank) (taken : List (List ℕ)) (symbol : Option (List ℕ)) (j : Json)
    → resource_in here rank taken j ≡ None → DescribesResource (symbol, j) r → TreeNamesDiffer r

unfoldable BodyNamed : BodyTree → Type 0
BodyNamed (body_members ms) = Unit {0}
BodyNamed (deployment s ps t) = TemplateNamed t

-- ---- lists of resources

row_more : (r : ResourceTree) (rs : Trees) → ResourceNamed r → RowNamed rs → RowNamed (a_resource r rs)
row_more r rs h g here rank taken i no_items e d = absurd d
row_more r rs h g here rank taken i (item j js) e d =
    let p = then_none (to_item i) (resource_in here rank taken j)
    (row_in here rank (names_with taken (resource_loop j)) (i + 1) js) e in
    (h here rank taken None j p.0 d.0, g here rank (names_with taken (resource_loop j)) (i + 1) js p.1 d.1)

symbol_by : (b : Bool) (o : Option TemplateFault) → (if b then o else Some (WrongForm [])) ≡ None → o ≡ None
symbol_by true o e = e
symbol_by false o e = cc

pairs_more : (r : ResourceTree) (rs : Trees) → ResourceNamed r → PairsNamed rs → PairsNamed (a_resource r rs)
pairs_more r rs h g here taken no_pairs e d = absurd d
pairs_more r rs h g here taken (pair k j ms) e d =
    let p = then_none (to_member k) (symbol_fault k (resource_in here Symbolic taken j))
    (pairs_in here (names_with taken (resource_loop j)) ms) e in (
      h here Symbolic taken (Some k) j (symbol_by (is_symbol k) (resource_in here Symbolic taken j) p.0) d.0,
      g here (names_with taken (resource_loop j)) ms p.1 d.1,
    )

-- no resources
none_named : (rs : Trees) → DescribesResources [] rs → TreesNamesDiffer rs
none_named no_resources d = tt
none_named (a_resource r rs) d = absurd d

-- children of a resource
children_named : (cs : Trees) → RowNamed cs → (here : Sight) (o : Option Json)
    → Holds (λ j. array_in here Child j ≡ None) o → DescribesResources (meaning.unnamed o) cs → TreesNamesDiffer cs
children_named no_resources g here o h d = tt
children_named (a_resource r rs) g here None h d = absurd d
children_named (a_resource r rs) g here (Some null) h d = absurd d
children_named (a_resource r rs) g here (Some (bool b)) h d = absurd d
children_named (a_resource r rs) g here (Some (int z)) h d = absurd d
children_named (a_resource r rs) g here (Some (text t)) h d = absurd d
children_named (a_resource r rs) g here (Some (array js)) h d = g here Child [] 0 js h d
children_named (a_resource r rs) g here (Some (object ms)) h d = absurd d

-- resources of a template of either form
listed_named : (rs : Trees) → RowNamed rs → PairsNamed rs → (here : Sight) (form : Form) (o : Option Json)
    → Holds (λ j. by_form form (array_in here Listed j) (symbols_in here j) ≡ None) o
    → DescribesResources (meaning.listed form o) rs → TreesNamesDiffer rs
listed_named no_resources f g here form o h d = tt
listed_named (a_resource r rs) f g here One None h d = absurd d
listed_named (a_resource r rs) f g here One (Some null) h d = absurd d
listed_named (a_resource r rs) f g here One (Some (bool b)) h d = absurd d
listed_named (a_resource r rs) f g here One (Some (int z)) h d = absurd d
listed_named (a_resource r rs) f g here One (Some (text t)) h d = absurd d
listed_named (a_resource r rs) f g here One (Some (array js)) h d = f here Listed [] 0 js h d
listed_named (a_resource r rs) f g here One (Some (object ms)) h d = absurd d
listed_named (a_resource r rs) f g here Two None h d = absurd d
listed_named (a_resource r rs) f g here Two (Some null) h d = absurd d
listed_named (a_resource r rs) f g here Two (Some (bool b)) h d = absurd d
listed_named (a_resource r rs) f g here Two (Some (int z)) h d = absurd d
listed_named (a_resource r rs) f g here Two (Some (text t)) h d = absurd d
listed_named (a_resource r rs) f g here Two (Some (array js)) h d = absurd d
listed_named (a_resource r rs) f g here Two (Some (object ms)) h d = g here [] ms h d

-- ---- whether a resource is a nested deployment

type_same : (o : Option Json) → has_deployment_type o ≡ is_word (codes "Microsoft.Resources/deployments") o
unfolding is_deployment_type
type_same None = refl
type_same (Some null) = refl
type_same (Some (bool b)) = refl
type_same (Some (int z)) = refl
type_same (Some (text t)) =
    ap (λ w. is_same_folded w t) (sym (ascii.word (codes "Microsoft.Resources/deployments") refl))
type_same (Some (array js)) = refl
type_same (Some (object ms)) = refl

type_read : (ms : Pairs) → has_deployment_type (look_in (codes "type") ms) ≡ meaning.is_deployment (Some (object ms))
type_read ms =
    ap has_deployment_type (look_inside (codes "type") ms refl) ∙ type_same (inside (codes "type") (Some (object ms)))

same_slash : (c : ℕ) → is_slash (to_ascii_lowercase c) ≡ is_slash c
same_slash c = grind (arith, nat_tests)

folded_slash : (t : List ℕ) → has_slash (fold t) ≡ has_slash t
folded_slash [] = refl
folded_slash (c ∷ cs) = ap₂ (λ a b. a || b) (same_slash c) (folded_slash cs)

-- a text of one segment is not the type of nested deployments
no_segment : (o : Option Json) → Holds (λ j. type_fault Child j ≡ None) o
    → is_word (codes "Microsoft.Resources/deployments") o ≡ true → ⊥
no_segment None h e = cc
no_segment (Some null) h e = cc
no_segment (Some (bool b)) h e = cc
no_segment (Some (int z)) h e = cc
no_segment (Some (text t)) h e =
    let p = first_none (bracket_fault t) (segment_fault Child t) h in
    let folded : fold (codes "Microsoft.Resources/deployments") ≡ fold t =
    ap fold (sym (ascii.word (codes "Microsoft.Resources/deployments") refl))
    ∙ same_fold (chars (codes "Microsoft.Resources/deployments")) t e in
    let slash : has_slash t ≡ true = sym (folded_slash t) ∙ sym (ap has_slash folded) in
    one_segment (has_slash t) slash p.1
  where
    one_segment : (b : Bool) → b ≡ true → (if b then Some (WrongForm []) else None) ≡ None → ⊥
    one_segment true f g = cc
    one_segment false f g = cc
no_segment (Some (array js)) h e = cc
no_segment (Some (object ms)) h e = cc

deployed : (rank : Rank) (ms : Pairs) → meaning.is_deployment (Some (object ms)) ≡ true
    → Holds (λ j. type_fault rank j ≡ None) (inside (codes "type") (Some (object ms)))
    → (setting_of rank ms).is_deployment ≡ true
deployed Listed ms e h = type_read ms ∙ e
deployed Child ms e h = absurd (no_segment (inside (codes "type") (Some (object ms))) h e)
deployed Symbolic ms e h = type_read ms ∙ e

-- ---- nested deployments

first_nested : (here : Sight) (scope : Scope) (ms : Pairs) → nested_of here scope ms ≡ None
    → Holds IsTemplate (first_by (is_same_folded (codes "template")) ms)
first_nested here scope no_pairs e = tt
first_nested here scope (pair k j ms) e =
    by_test (is_same_folded (codes "template") k) (λ g. first_nested here scope ms g) e
  where
    by_test : (b : Bool)
        → (nested_of here scope ms ≡ None → Holds IsTemplate (first_by (is_same_folded (codes "template")) ms))
        → (if b then named k (template_in (seen_by here scope (sight_of j)) (place_in scope) j)
        else nested_of here scope ms) ≡ None
        → Holds IsTemplate (if b then Some j else first_by (is_same_folded (codes "template")) ms)
    by_test true h g = (
      seen_by here scope (sight_of j),
      (place_in scope, named_none k (template_in (seen_by here scope (sight_of j)) (place_in scope) j) g),
    )
    by_test false h g = h g

-- the template in properties that are not refused
nested_in : (here : Sight) (qs : Pairs) → properties_in here (object qs) ≡ None
    → Holds IsTemplate (inside (codes "template") (Some (object qs)))
nested_in here qs e =
    let sc = scope_of qs in
    let rule = property_member here in
    let p = decided_none (missing property_members qs)
    (earlier (faulty_by every rule [] qs) (nested_of here sc qs)) e in
    let q = earlier_none (faulty_by every rule [] qs) (nested_of here sc qs) p.1 in
    subst (Holds IsTemplate) (single_found (codes "template") qs refl (faulty_none every rule qs q.0).1)
    (first_nested here sc qs q.1)

properties_named : (t : TemplateTree) → TemplateNamed t → (here : Sight) (o : Option Json)
    → Holds (λ j. properties_in here j ≡ None) o → DescribesTemplate (inside (codes "template") o) t → NamesDiffer t
properties_named t f here None h d = f None tt d
properties_named t f here (Some null) h d = cc
properties_named t f here (Some (bool b)) h d = cc
properties_named t f here (Some (int z)) h d = cc
properties_named t f here (Some (text s)) h d = cc
properties_named t f here (Some (array js)) h d = cc
properties_named t f here (Some (object qs)) h d =
    f (inside (codes "template") (Some (object qs))) (nested_in here qs h) d

-- ---- resources

fine_children : (here : Sight) (rank : Rank) (ms : Pairs) (o : Option Json)
    → first_by (is_same_folded (codes "resources")) ms ≡ o → children_of here (is_symbolic rank) ms ≡ None
    → Holds (λ j. children_fault rank ≡ None) o → Holds (λ j. array_in here Child j ≡ None) o
fine_children here Listed ms o f e h =
    subst (Holds (λ j. array_in here Child j ≡ None)) f (first_children_of here ms e)
fine_children here Child ms o f e h =
    subst (Holds (λ j. array_in here Child j ≡ None)) f (first_children_of here ms e)
fine_children here Symbolic ms None f e h = tt
fine_children here Symbolic ms (Some j) f e h = cc

-- what is known of a resource with these members that is not refused
record Known (here : Sight) (rank : Rank) (ms : Pairs) : Type 0 where
  apart : Apart (is_single (setting_of rank ms)) (pair_keys ms)
  kind : Holds (λ j. type_fault rank j ≡ None) (inside (codes "type") (Some (object ms)))
  children : Holds (λ j. array_in here Child j ≡ None) (inside (codes "resources") (Some (object ms)))
  properties : properties_of here (setting_of rank ms).is_deployment ms ≡ None

resource_known : (here : Sight) (rank : Rank) (taken : List (List ℕ)) (ms : Pairs)
    → resource_in here rank taken (object ms) ≡ None → Known here rank ms
unfolding is_declaration_member is_refused_member
resource_known here rank taken ms e =
    let s = setting_of rank ms in
    let rule = member_fault here s taken in
    let o = inside (codes "resources") (Some (object ms)) in
    let parts = earlier (children_of here (is_symbolic rank) ms) (properties_of here s.is_deployment ms) in
    let p = decided_none (missing (resource_members s.is_deployment) ms)
    (earlier (faulty_by (is_single s) rule [] ms) parts) e in
    let q = earlier_none (faulty_by (is_single s) rule [] ms) parts p.1 in
    let f = faulty_none (is_single s) rule ms q.0 in
    let r = earlier_none (children_of here (is_symbolic rank) ms) (properties_of here s.is_deployment ms) q.1 in
    let allowed = found_accepted rule (codes "resources") refl (declared_at here s taken
    (codes "resources") refl refl) ms f.0 in
    record {
      apart = f.1;
      kind = found_accepted rule (codes "type") refl (declared_at here s taken (codes "type") refl refl) ms f.0;
      children = fine_children here rank ms o (declared_found s (codes "resources") ms refl refl f.1) r.0 allowed;
      properties = r.1;
    }

body_named_by : (b : BodyTree) → BodyNamed b → (here : Sight) (rank : Rank) (symbol : Option (List ℕ)) (ms : Pairs)
    → Known here rank ms → DescribesBody (symbol, object ms) b → BodyNamesDiffer b
unfolding BodyNamed
body_named_by (body_members xs) f here rank symbol ms k d = tt
body_named_by (deployment s ps t) f here rank symbol ms k d =
    let is = deployed rank ms d.0 k.kind in
    properties_named t f here (inside (codes "properties") (Some (object ms)))
    (subst (Holds (λ j. properties_in here j ≡ None)) (properties_found (setting_of rank ms) ms is k.apart)
    (first_properties_of here ms (subst (λ b. properties_of here b ms ≡ None) is k.properties))) d.3

resource_from : (d : Declaration) (b : BodyTree) (cs : Trees) → BodyNamed b → RowNamed cs
    → ResourceNamed (resource d b cs)
resource_from d b cs f g here rank taken symbol null e h = cc
resource_from d b cs f g here rank taken symbol (bool c) e h = cc
resource_from d b cs f g here rank taken symbol (int z) e h = cc
resource_from d b cs f g here rank taken symbol (text t) e h = cc
resource_from d b cs f g here rank taken symbol (array js) e h = cc
resource_from d b cs f g here rank taken symbol (object ms) e h =
    let k = resource_known here rank taken ms e in (
      body_named_by b f here rank symbol ms k h.1,
      children_named cs g here (inside (codes "resources") (Some (object ms))) k.children h.2,
    )

-- ---- templates

first_resources : (here : Sight) (form : Form) (ms : Pairs) → resources_of here form ms ≡ None
    → Holds (λ j. by_form form (array_in here Listed j) (symbols_in here j) ≡ None)
    (first_by (is_same_folded (codes "resources")) ms)
first_resources here form no_pairs e = tt
first_resources here form (pair k j ms) e =
    by_test (is_same_folded (codes "resources") k) (λ g. first_resources here form ms g) e
  where
    by_test : (b : Bool) → (resources_of here form ms ≡ None
        → Holds (λ i. by_form form (array_in here Listed i) (symbols_in here i) ≡ None)
        (first_by (is_same_folded (codes "resources")) ms))
        → (if b then named k (by_form form (array_in here Listed j) (symbols_in here j))
        else resources_of here form ms) ≡ None
        → Holds (λ i. by_form form (array_in here Listed i) (symbols_in here i) ≡ None)
        (if b then Some j else first_by (is_same_folded (codes "resources")) ms)
    by_test true h g = named_none k (by_form form (array_in here Listed j) (symbols_in here j)) g
    by_test false h g = h g

template_object : (h : Header) (rs : Trees) → RowNamed rs → PairsNamed rs → (here : Sight) (place : Place) (ms : Pairs)
    → template_in here place (object ms) ≡ None → DescribesTemplate (Some (object ms)) (template h rs)
    → NamesDiffer (template h rs)
template_object h rs f g here place ms e d =
    let v = Some (object ms) in
    let rule = template_member here place in
    let resources = resources_of here (form_in ms) ms in
    let all = earlier (faulty_by every rule [] ms) resources in
    let p = first_none (decided (missing template_members ms) all) (count_fault ms) e in
    let q = decided_none (missing template_members ms) all p.0 in
    let r = earlier_none (faulty_by every rule [] ms) resources q.1 in
    let k = faulty_none every rule ms r.0 in
    let s : Sound template_members every rule ms = record { there = q.0; accepted = k.0; apart = k.1 } in
    let fine = subst (λ x. Holds (λ j. by_form x (array_in here Listed j) (symbols_in here j) ≡ None)
    (inside (codes "resources") v)) (sym (form_read ms))
    (subst (Holds (λ j. by_form (form_in ms) (array_in here Listed j) (symbols_in here j) ≡ None))
    (single_found (codes "resources") ms refl k.1) (first_resources here (form_in ms) ms r.1)) in (
      subst HasOwnNames (sym d.0) (own_names here place ms s),
      listed_named rs f g here (describes.form_of v) (inside (codes "resources") v) fine d.1,
    )

template_from : (h : Header) (rs : Trees) → RowNamed rs → PairsNamed rs → TemplateNamed (template h rs)
template_from h rs f g None e d = (subst HasOwnNames (sym d.0) no_names, none_named rs d.1)
template_from h rs f g (Some null) e d = let c = e.1.1 in cc
template_from h rs f g (Some (bool b)) e d = let c = e.1.1 in cc
template_from h rs f g (Some (int z)) e d = let c = e.1.1 in cc
template_from h rs f g (Some (text t)) e d = let c = e.1.1 in cc
template_from h rs f g (Some (array js)) e d = let c = e.1.1 in cc
template_from h rs f g (Some (object ms)) e d = template_object h rs f g e.0 e.1.0 ms e.1.1 d

mutual
  unfolding BodyNamed

  template_named : (t : TemplateTree) → TemplateNamed t
  template_named (template h rs) = template_from h rs (row_named rs) (pairs_named rs)

  row_named : (rs : Trees) → RowNamed rs
  row_named no_resources = λ here rank taken i js e d. tt
  row_named (a_resource r rs) = row_more r rs (resource_named r) (row_named rs)

  pairs_named : (rs : Trees) → PairsNamed rs
  pairs_named no_resources = λ here taken ms e d. tt
  pairs_named (a_resource r rs) = pairs_more r rs (resource_named r) (pairs_named rs)

  resource_named : (r : ResourceTree) → ResourceNamed r
  resource_named (resource d b cs) = resource_from d b cs (body_named b) (row_named cs)

  body_named : (b : BodyTree) → BodyNamed b
  body_named (body_members ms) = tt
  body_named (deployment s ps t) = template_named t

-- the names differ in a template that a value states
pub stated_names : (t : TemplateTree) → IsStated t → NamesDiffer t
stated_names t s =
    template_named t (Some s.by) (sight_of s.by, (Variable, s.states.faultless)) s.states.described
