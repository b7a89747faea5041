-- A template that has no fault, once it is written: it has none, nests no deeper, and its expressions see the same
-- names.
use Rattle.std.proofs.Common.{◌≡◌, ◌≤◌, ◌||◌, ◌&&◌, ℕ, chars, codes}
use Rattle.std.proofs.Common.{Bool, true, false, List, [], ◌∷◌, Option, Some, None, option_map, is_some, refl, sym, ap}
use Rattle.std.proofs.Common.{ap₂, ◌∙◌, subst, arith, if◌then◌else◌}
use Rattle.std.specs.Char.{to_ascii_lowercase}
use Rattle.std.proofs.lemmas.Bool.Decides.{nat_tests}
use Rattle.arm_ids.specs.Members.{is_deployment_type, is_declaration_member, is_refused_member}
use Rattle.arm_ids.specs.Segments.{is_slash, has_slash}
use Rattle.arm_value.specs.Json.{Json, null, bool, int, text, array, object, Member}
use Rattle.arm_value.specs.Json.{Pairs, no_pairs, pair, pairs, members, pair_keys, nesting}
use Rattle.arm_value.specs.Json.{pairs_nesting}
use Rattle.arm_value.specs.Look.{fold, is_same_folded, first_by, look_in}
use Rattle.arm_value.proofs.TreeLemmas.{pairs-members}
use Rattle.foundation.proofs.AsciiWords as ascii
use Rattle.resource_members.specs.Copies.{copy_fault}
use Rattle.resource_members.specs.Members.{type_fault, children_fault, member_fault, bracket_fault, segment_fault}
use Rattle.resource_members.specs.Settings.{has_deployment_type, is_parent, setting_of, is_symbolic}
use Rattle.resource_members.specs.Settings.{is_single, resource_members}
use Rattle.resource_members.specs.declared.setting.Rank.{Rank}
use Rattle.resource_members.specs.declared.setting.Rank.TheVariants.{Listed, Child, Symbolic}
use Rattle.resource_members.specs.declared.setting.Setting.{Setting}
use Rattle.template_faults.specs.Counts as counts
use Rattle.template_faults.specs.Counts.{total, array_count, row_count, tree_count, pairs_count, symbols_count}
use Rattle.template_faults.specs.Counts.{form_count}
use Rattle.template_faults.specs.Counts.{exists, resource_count, count_fault}
use Rattle.template_faults.specs.Faults.{named, earlier, by_form, loop_in}
use Rattle.template_faults.specs.Faults.{template_in, resources_of, array_in, symbols_in, resource_in}
use Rattle.template_faults.specs.Faults.{template_by}
use Rattle.template_faults.specs.Faults.{children_of, properties_of, properties_in, template_fault}
use Rattle.template_faults.specs.Header.{template_members, template_member, form_in}
use Rattle.template_faults.specs.Sights.{sight_of}
use Rattle.template_meaning.specs.Values.{inside, is_true, is_word}
use Rattle.template_meaning.specs.Resources as meaning
use Rattle.template_meaning.specs.Resources.{Listed as ListedAs, declaration_of, body_of, copy_in, scope_in}
use Rattle.template_meaning.specs.Resources.{arguments_in}
use Rattle.template_meaning.specs.Describes as describes
use Rattle.template_meaning.specs.Describes.{header_by, DescribesTemplate, DescribesResource, DescribesBody}
use Rattle.template_meaning.specs.Describes.{DescribesResources}
use Rattle.template_members.specs.Objects.{every, faulty_by}
use Rattle.template_parts.specs.declared.content.Argument.{Argument}
use Rattle.template_parts.specs.declared.declaration.Declaration.{Declaration}
use Rattle.template_parts.specs.declared.fault.TemplateFault.TheVariants.{WrongForm}
use Rattle.template_parts.specs.declared.mode.Form.{Form}
use Rattle.template_parts.specs.declared.mode.Form.TheVariants.{One, Two}
use Rattle.template_parts.specs.declared.mode.Scope.{Scope}
use Rattle.template_texts.specs.declared.sight.Place.{Place}
use Rattle.template_texts.specs.declared.sight.Place.TheVariants.{Variable}
use Rattle.template_texts.specs.declared.sight.Sight.{Sight}
use Rattle.template_tree.specs.Tree.{Header, TemplateTree, template, ResourceTree, resource, BodyTree, body_members}
use Rattle.template_tree.specs.Tree.{deployment, Trees, no_resources, a_resource}
use Rattle.template_values.specs.Order.{missing, has, decided, first_of}
use Rattle.template_written.specs.Slots.{Slot, put_slots, an_object, array_unless_empty}
use Rattle.template_written.specs.Slots.{NestsWithin}
use Rattle.template_written.specs.Parts.{copy_slots, true_or_none, declaration_slots}
use Rattle.template_written.specs.Written.{header_slots, deployment_slots}
use Rattle.template_written.specs.Written.{resources_by, written, written_each, written_by_symbol, written_resource}
use Rattle.template_written.proofs.SlotLemmas.{look_slot}
use Rattle.written_parts.proofs.FaultLemmas.{Holds, holding, first_none, decided_none, earlier_none}
use Rattle.written_parts.proofs.FaultLemmas.{named_none, Accepts, Apart, Sound, faulty_none, faulty_nothing}
use Rattle.written_parts.proofs.FaultLemmas.{found_accepted, has_inside, same_fold}
use Rattle.written_parts.proofs.ObjectLemmas.{NoneHas, AreIn, accepts_slots, apart_slots, slots_there}
use Rattle.written_parts.proofs.ObjectLemmas.{object_within, inside_within, free_nothing}
use Rattle.written_parts.proofs.ValueLemmas.{missing_none}
use Rattle.written_resources.proofs.ResourceLemmas.{DeclarationKept, declaration_kept, declared_at, properties_are}
use Rattle.written_resources.proofs.BodyLemmas.{accepts_body, apart_body, nests_body, none_outside, declaration_free}
use Rattle.written_resources.proofs.BodyLemmas.{outside_type, outside_api, outside_name, outside_copy}
use Rattle.written_resources.proofs.BodyLemmas.{outside_resources}
use Rattle.written_resources.proofs.BodyLemmas.{outside_existing, first_children_of, children_of_nothing}
use Rattle.written_resources.proofs.BodyLemmas.{first_properties_of}
use Rattle.written_resources.proofs.BodyLemmas.{properties_of_nothing, symbolic_children, no_properties, count_in}
use Rattle.written_resources.proofs.BodyLemmas.{first_count}
use Rattle.written_resources.proofs.BodyLemmas.{declared_found, properties_found, look_inside, copy_name, Assembled}
use Rattle.written_resources.proofs.BodyLemmas.{resource_passes, same_setting}
use Rattle.template_trips.proofs.HeaderLemmas.{form_read, form_written, header_kept, sight_kept}
use Rattle.template_trips.proofs.HeaderLemmas.{counts_kept}
use Rattle.template_trips.proofs.RowLemmas.{EachKept, SymbolsKept, WrittenAs, ResourceKept, TemplateKept, BodyKept}
use Rattle.template_trips.proofs.RowLemmas.{each_none, each_more, symbols_none, symbols_more, ChildrenKept}
use Rattle.template_trips.proofs.RowLemmas.{children_from}
use Rattle.template_trips.proofs.NestedLemmas.{properties_from, single_found}
use Rattle.arm_value.specs.Kinds as kinds

-- ---- resources

truth_kept : (o : Option Json) → kinds.is_true (true_or_none (is_true o)) ≡ kinds.is_true o
truth_kept None = refl
truth_kept (Some null) = refl
truth_kept (Some (bool true)) = refl
truth_kept (Some (bool false)) = refl
truth_kept (Some (int z)) = refl
truth_kept (Some (text t)) = refl
truth_kept (Some (array js)) = refl
truth_kept (Some (object ms)) = refl

-- the slots of a resource over members of its body, and what is found there
record Found (here : Sight) (rank : Rank) (taken : List (List ℕ)) (n : ℕ) (ms : Pairs) (js : List Json) (ss : List Slot)
    (base : List Member) : Type 0 where
  assembled : Assembled here (setting_of rank ms) taken n ss base
  kind : inside (codes "type") (Some (object (pairs (put_slots ss base)))) ≡ inside (codes "type") (Some (object ms))
  resources : inside (codes "resources") (Some (object (pairs (put_slots ss base)))) ≡ array_unless_empty js
  copy : inside (codes "copy") (Some (object (pairs (put_slots ss base))))
      ≡ option_map (λ c. an_object (copy_slots c)) (copy_in (inside (codes "copy") (Some (object ms))))
  existing : is_symbolic rank ≡ true → inside (codes "existing") (Some (object (pairs (put_slots ss base))))
      ≡ true_or_none (is_true (inside (codes "existing") (Some (object ms))))
  properties : properties_of here (setting_of rank ms).is_deployment (pairs (put_slots ss base)) ≡ None

children_pass : (here : Sight) (s : Setting) (b : Bool) (ws : Pairs) (o : Option Json)
    → Apart (is_single s) (pair_keys ws)
    → inside (codes "resources") (Some (object ws)) ≡ o → Holds (λ w. array_in here Child w ≡ None) o
    → children_of here b ws ≡ None
unfolding is_declaration_member
children_pass here s true ws o a e h = symbolic_children here ws
children_pass here s false ws o a e h =
    children_of_nothing here ws
    (subst (Holds (λ w. array_in here Child w ≡ None))
    (sym (declared_found s (codes "resources") ws refl refl a ∙ e)) h)

resource_written : (here : Sight) (rank : Rank) (taken : List (List ℕ)) (ms : Pairs) (js : List Json) (ss : List Slot)
    (base : List Member) → Found here rank taken (pairs_nesting ms) ms js ss base
    → ChildrenKept here rank (pairs_nesting ms) (inside (codes "resources") (Some (object ms))) js
    → Apart (is_single (setting_of rank ms)) (pair_keys ms)
    → Holds (λ j. copy_fault here (setting_of rank ms) taken j ≡ None) (inside (codes "copy") (Some (object ms)))
    → WrittenAs here rank taken (object ms) (object (pairs (put_slots ss base)))
resource_written here rank taken ms js ss base f c a h =
    let s = setting_of rank ms in
    let ws = pairs (put_slots ss base) in
    let v = Some (object ms) in
    let k = f.assembled in
    let apart = apart_slots (is_single s) ss base k.differ k.free k.apart in
    let same = same_setting rank ms ws
    (look_inside (codes "type") ws refl ∙ f.kind ∙ sym (look_inside (codes "type") ms refl))
    (ap (is_parent rank) (look_inside (codes "resources") ws refl ∙ f.resources) ∙ c.parent
    ∙ ap (is_parent rank) (sym (look_inside (codes "resources") ms refl))) in
    let pass = resource_passes here rank taken s (pairs_nesting ms) ss base k same
    (children_pass here s (is_symbolic rank) ws (array_unless_empty js) apart f.resources c.fine) f.properties in
    record {
      passes = pass.0;
      within = pass.1;
      loop = ap loop_in (look_inside (codes "copy") ws refl ∙ f.copy)
          ∙ copy_name here s taken (inside (codes "copy") v) h
          ∙ sym (ap loop_in (look_inside (codes "copy") ms refl));
      count = ap (total 1) (first_count ws ∙ ap count_in (declared_found s (codes "resources") ws refl refl apart
          ∙ f.resources) ∙ c.count ∙ sym (ap count_in (declared_found s (codes "resources") ms refl refl a))
          ∙ sym (first_count ms));
      existing = λ y. ap kinds.is_true (look_inside (codes "existing") ws refl ∙ f.existing y)
          ∙ truth_kept (inside (codes "existing") v) ∙ sym (ap kinds.is_true (look_inside (codes "existing") ms refl));
    }

fine_children : (here : Sight) (rank : Rank) (ms : Pairs) (o : Option Json)
    → first_by (is_same_folded (codes "resources")) ms ≡ o → children_of here (is_symbolic rank) ms ≡ None
    → Holds (λ j. children_fault rank ≡ None) o
    → Holds (λ j. (children_fault rank ≡ None) × (array_in here Child j ≡ None)) o
fine_children here Listed ms o f e h =
    holding (λ j. array_in here Child j ≡ None) (λ j. (children_fault Listed ≡ None) × (array_in here Child j ≡ None))
    (λ j g. (refl, g)) o (subst (Holds (λ j. array_in here Child j ≡ None)) f (first_children_of here ms e))
fine_children here Child ms o f e h =
    holding (λ j. array_in here Child j ≡ None) (λ j. (children_fault Child ≡ None) × (array_in here Child j ≡ None))
    (λ j g. (refl, g)) o (subst (Holds (λ j. array_in here Child j ≡ None)) f (first_children_of here ms e))
fine_children here Symbolic ms None f e h = tt
fine_children here Symbolic ms (Some j) f e h = cc

-- ---- whether a resource is a nested deployment

type_same : (o : Option Json)
    → has_deployment_type o ≡ is_word (codes "Microsoft.Resources/deployments") o
unfolding is_deployment_type
type_same None = refl
type_same (Some null) = refl
type_same (Some (bool b)) = refl
type_same (Some (int z)) = refl
type_same (Some (text t)) =
    ap (λ w. is_same_folded w t) (sym (ascii.word (codes "Microsoft.Resources/deployments") refl))
type_same (Some (array js)) = refl
type_same (Some (object ms)) = refl

type_read : (ms : Pairs) → has_deployment_type (look_in (codes "type") ms) ≡ meaning.is_deployment (Some (object ms))
type_read ms =
    ap has_deployment_type (look_inside (codes "type") ms refl) ∙ type_same (inside (codes "type") (Some (object ms)))

not_deployed : (rank : Rank) (ms : Pairs) → meaning.is_deployment (Some (object ms)) ≡ false
    → (setting_of rank ms).is_deployment ≡ false
not_deployed Listed ms e = type_read ms ∙ e
not_deployed Child ms e = refl
not_deployed Symbolic ms e = type_read ms ∙ e

same_slash : (c : ℕ) → is_slash (to_ascii_lowercase c) ≡ is_slash c
same_slash c = grind (arith, nat_tests)

folded_slash : (t : List ℕ) → has_slash (fold t) ≡ has_slash t
folded_slash [] = refl
folded_slash (c ∷ cs) = ap₂ (λ a b. a || b) (same_slash c) (folded_slash cs)

-- a text of one segment is not the type of nested deployments
no_segment : (o : Option Json) → Holds (λ j. type_fault Child j ≡ None) o
    → is_word (codes "Microsoft.Resources/deployments") o ≡ true → ⊥
no_segment None h e = cc
no_segment (Some null) h e = cc
no_segment (Some (bool b)) h e = cc
no_segment (Some (int z)) h e = cc
no_segment (Some (text t)) h e =
    let p = first_none (bracket_fault t) (segment_fault Child t) h in
    let folded : fold (codes "Microsoft.Resources/deployments") ≡ fold t =
    ap fold (sym (ascii.word (codes "Microsoft.Resources/deployments") refl))
    ∙ same_fold (chars (codes "Microsoft.Resources/deployments")) t e in
    let slash : has_slash t ≡ true = sym (folded_slash t) ∙ sym (ap has_slash folded) in
    one_segment (has_slash t) slash p.1
  where
    one_segment : (b : Bool) → b ≡ true → (if b then Some (WrongForm []) else None) ≡ None → ⊥
    one_segment true f g = cc
    one_segment false f g = cc
no_segment (Some (array js)) h e = cc
no_segment (Some (object ms)) h e = cc

deployed : (rank : Rank) (ms : Pairs) → meaning.is_deployment (Some (object ms)) ≡ true
    → Holds (λ j. type_fault rank j ≡ None) (inside (codes "type") (Some (object ms)))
    → (setting_of rank ms).is_deployment ≡ true
deployed Listed ms e h = type_read ms ∙ e
deployed Child ms e h = absurd (no_segment (inside (codes "type") (Some (object ms))) h e)
deployed Symbolic ms e h = type_read ms ∙ e

-- ---- resources with their bodies

existing_none : (symbol : Option (List ℕ)) (xs : List Member) → is_some symbol ≡ true
    → NoneHas (codes "existing") (body_of symbol xs)
existing_none None xs e = cc
existing_none (Some s) xs e = none_outside (codes "existing") (Some s) xs (outside_existing s)

-- a resource of these members with its body
members_found : (here : Sight) (rank : Rank) (taken : List (List ℕ)) (symbol : Option (List ℕ)) (ms : Pairs)
    (js : List Json) → is_symbolic rank ≡ is_some symbol → meaning.is_deployment (Some (object ms)) ≡ false
    → Sound (resource_members (setting_of rank ms).is_deployment) (is_single (setting_of rank ms))
    (member_fault here (setting_of rank ms) taken) ms
    → DeclarationKept here (setting_of rank ms) taken symbol ms js
    → Found here rank taken (pairs_nesting ms) ms js (declaration_slots (declaration_of symbol (Some (object ms))) js)
    (body_of symbol (members ms))
members_found here rank taken symbol ms js y e k d =
    let s = setting_of rank ms in
    let rule = member_fault here s taken in
    let v = Some (object ms) in
    let ss = declaration_slots (declaration_of symbol v) js in
    let base = body_of symbol (members ms) in
    let none = not_deployed rank ms e in
    let same = pairs-members ms in
    let type = none_outside (codes "type") symbol (members ms) (outside_type symbol) in
    record {
      assembled = record {
        differ = refl;
        free = declaration_free symbol v js (members ms);
        there = subst (λ b. AreIn (resource_members b) ss base) (sym none) (
          (refl, none_outside (codes "apiVersion") symbol (members ms) (outside_api symbol), refl),
          (
            (refl, none_outside (codes "name") symbol (members ms) (outside_name symbol), refl),
            ((refl, type, refl), tt),
          ),
        );
        passes = d.passes;
        accepted = accepts_body rule symbol (members ms) (subst (Accepts rule) (sym same) k.accepted);
        apart = apart_body (is_single s) symbol (members ms)
            (subst (λ ps. Apart (is_single s) (pair_keys ps)) (sym same) k.apart);
        within = d.within;
        inner = omega (arith, nests_body symbol (members ms), ap pairs_nesting same);
      };
      kind = look_slot (codes "type") ss base refl refl type ∙ sym d.kind;
      resources = look_slot (codes "resources") ss base refl refl
          (none_outside (codes "resources") symbol (members ms) (outside_resources symbol));
      copy = look_slot (codes "copy") ss base refl refl
          (none_outside (codes "copy") symbol (members ms) (outside_copy symbol));
      existing = λ t. look_slot (codes "existing") ss base refl refl
          (existing_none symbol (members ms) (sym y ∙ t))
          ∙ ap (λ b. true_or_none (b && is_true (inside (codes "existing") v))) (sym y ∙ t);
      properties = subst (λ b. properties_of here b (pairs (put_slots ss base)) ≡ None) (sym none)
          (no_properties here (pairs (put_slots ss base)));
    }

-- a nested deployment of these members, whose properties are written so
deployment_found : (here : Sight) (rank : Rank) (taken : List (List ℕ)) (symbol : Option (List ℕ)) (ms : Pairs)
    (js : List Json) (p : Json) → is_symbolic rank ≡ is_some symbol → (setting_of rank ms).is_deployment ≡ true
    → DeclarationKept here (setting_of rank ms) taken symbol ms js → properties_in here p ≡ None
    → nesting p ≤ pairs_nesting ms
    → Found here rank taken (pairs_nesting ms) ms js
    ((codes "properties", Some p) ∷ declaration_slots (declaration_of symbol (Some (object ms))) js) []
deployment_found here rank taken symbol ms js p y e d h w =
    let s = setting_of rank ms in
    let rule = member_fault here s taken in
    let v = Some (object ms) in
    let ss : List Slot = (codes "properties", Some p) ∷ declaration_slots (declaration_of symbol v) js in
    let ws = pairs (put_slots ss []) in
    let all : Assembled here s taken (pairs_nesting ms) ss [] = record {
      differ = refl;
      free = free_nothing ss;
      there = subst (λ b. AreIn (resource_members b) ss []) (sym e)
          ((refl, refl, refl), ((refl, refl, refl), ((refl, refl, refl), ((refl, refl, refl), tt))));
      passes = (properties_are here s taken p e, d.passes);
      accepted = tt;
      apart = tt;
      within = (w, d.within);
      inner = omega arith;
    } in
    let apart = apart_slots (is_single s) ss [] all.differ all.free all.apart in
    record {
      assembled = all;
      kind = look_slot (codes "type") ss [] refl refl refl ∙ sym d.kind;
      resources = look_slot (codes "resources") ss [] refl refl refl;
      copy = look_slot (codes "copy") ss [] refl refl refl;
      existing = λ t. look_slot (codes "existing") ss [] refl refl refl
          ∙ ap (λ b. true_or_none (b && is_true (inside (codes "existing") v))) (sym y ∙ t);
      properties = subst (λ b. properties_of here b ws ≡ None) (sym e)
          (properties_of_nothing here ws
          (subst (Holds (λ j. properties_in here j ≡ None))
          (sym (properties_found s ws e apart ∙ look_slot (codes "properties") ss [] refl refl refl)) h));
    }

properties_required : (ms : Pairs) (b : Bool) → b ≡ true → missing (resource_members b) ms ≡ None
    → has (codes "properties") ms ≡ true
properties_required ms true e m =
    (missing_none (codes "apiVersion" ∷ codes "name" ∷ codes "properties" ∷ codes "type" ∷ []) ms m).1.1.0
properties_required ms false e m = cc

-- what is known of a resource with these members that is not refused
record Known (here : Sight) (rank : Rank) (taken : List (List ℕ)) (symbol : Option (List ℕ)) (ms : Pairs) (cs : Trees)
    : Type 0 where
  sound : Sound (resource_members (setting_of rank ms).is_deployment) (is_single (setting_of rank ms))
      (member_fault here (setting_of rank ms) taken) ms
  properties : properties_of here (setting_of rank ms).is_deployment ms ≡ None
  kind : Holds (λ j. type_fault rank j ≡ None) (inside (codes "type") (Some (object ms)))
  copy : Holds (λ j. copy_fault here (setting_of rank ms) taken j ≡ None) (inside (codes "copy") (Some (object ms)))
  children : ChildrenKept here rank (pairs_nesting ms) (inside (codes "resources") (Some (object ms))) (written_each cs)
  declared : DeclarationKept here (setting_of rank ms) taken symbol ms (written_each cs)

resource_known : (cs : Trees) → EachKept cs → (here : Sight) (rank : Rank) (taken : List (List ℕ))
    (symbol : Option (List ℕ)) (ms : Pairs) → is_symbolic rank ≡ is_some symbol
    → resource_in here rank taken (object ms) ≡ None
    → DescribesResources (meaning.unnamed (inside (codes "resources") (Some (object ms)))) cs
    → Known here rank taken symbol ms cs
unfolding is_declaration_member is_refused_member
resource_known cs g here rank taken symbol ms y e d =
    let s = setting_of rank ms in
    let rule = member_fault here s taken in
    let o = inside (codes "resources") (Some (object ms)) in
    let parts = earlier (children_of here (is_symbolic rank) ms) (properties_of here s.is_deployment ms) in
    let p = decided_none (missing (resource_members s.is_deployment) ms)
    (earlier (faulty_by (is_single s) rule [] ms) parts) e in
    let q = earlier_none (faulty_by (is_single s) rule [] ms) parts p.1 in
    let f = faulty_none (is_single s) rule ms q.0 in
    let k : Sound (resource_members s.is_deployment) (is_single s) rule ms =
    record { there = p.0; accepted = f.0; apart = f.1 } in
    let r = earlier_none (children_of here (is_symbolic rank) ms) (properties_of here s.is_deployment ms) q.1 in
    let allowed = found_accepted rule (codes "resources") refl (declared_at here s taken
    (codes "resources") refl refl) ms
    k.accepted in
    let children = children_from cs g here rank (pairs_nesting ms) o
    (fine_children here rank ms o (declared_found s (codes "resources") ms refl refl k.apart) r.0 allowed)
    (inside_within (codes "resources") ms) d in
    record {
      sound = k;
      properties = r.1;
      kind = found_accepted rule (codes "type") refl (declared_at here s taken (codes "type") refl refl) ms k.accepted;
      copy = found_accepted rule (codes "copy") refl (declared_at here s taken (codes "copy") refl refl) ms k.accepted;
      children = children;
      declared = declaration_kept here s taken symbol ms (written_each cs) k y children.allowed children.within;
    }

plain_resource : (d : Declaration) (xs : List Member) (cs : Trees) → EachKept cs → (here : Sight) (rank : Rank)
    (taken : List (List ℕ)) (symbol : Option (List ℕ)) (ms : Pairs) → is_symbolic rank ≡ is_some symbol
    → resource_in here rank taken (object ms) ≡ None
    → DescribesResource (symbol, object ms) (resource d (body_members xs) cs)
    → WrittenAs here rank taken (object ms) (written_resource (resource d (body_members xs) cs))
plain_resource d xs cs g here rank taken symbol ms y e h =
    let js = written_each cs in
    let v = Some (object ms) in
    let k = resource_known cs g here rank taken symbol ms y e h.2 in
    let ss = declaration_slots (declaration_of symbol v) js in
    let base = body_of symbol (members ms) in
    subst (λ x. WrittenAs here rank taken (object ms) (object (pairs (put_slots (declaration_slots x js) xs))))
    (sym h.0)
    (subst (λ zs. WrittenAs here rank taken (object ms) (object (pairs (put_slots ss zs)))) (sym h.1.1)
    (resource_written here rank taken ms js ss base
    (members_found here rank taken symbol ms js y h.1.0 k.sound k.declared) k.children k.sound.apart k.copy))

deployed_resource : (d : Declaration) (s : Scope) (ps : List Argument) (t : TemplateTree) (cs : Trees)
    → TemplateKept t → EachKept cs → (here : Sight) (rank : Rank) (taken : List (List ℕ)) (symbol : Option (List ℕ))
    (ms : Pairs) → is_symbolic rank ≡ is_some symbol → resource_in here rank taken (object ms) ≡ None
    → DescribesResource (symbol, object ms) (resource d (deployment s ps t) cs)
    → WrittenAs here rank taken (object ms) (written_resource (resource d (deployment s ps t) cs))
deployed_resource d s ps t cs f g here rank taken symbol ms y e h =
    let js = written_each cs in
    let v = Some (object ms) in
    let n = pairs_nesting ms in
    let w = an_object (deployment_slots s ps (written t)) in
    let o = inside (codes "properties") v in
    let k = resource_known cs g here rank taken symbol ms y e h.2 in
    let is = deployed rank ms h.1.0 k.kind in
    let fine = subst (Holds (λ j. properties_in here j
    ≡ None)) (properties_found (setting_of rank ms) ms is k.sound.apart)
    (first_properties_of here ms (subst (λ b. properties_of here b ms ≡ None) is k.properties)) in
    let there = sym (has_inside (codes "properties") refl ms)
    ∙ properties_required ms (setting_of rank ms).is_deployment is k.sound.there in
    let p = properties_from s ps t f here n o there fine (inside_within (codes "properties") ms) h.1.1 h.1.2 h.1.3 in
    let ss : List Slot = (codes "properties", Some w) ∷ declaration_slots (declaration_of symbol v) js in
    subst (λ x. WrittenAs here rank taken (object ms)
    (object (pairs (put_slots ((codes "properties", Some w) ∷ declaration_slots x js) [])))) (sym h.0)
    (resource_written here rank taken ms js ss []
    (deployment_found here rank taken symbol ms js w y is k.declared p.0 p.1) k.children k.sound.apart k.copy)

resource_object : (d : Declaration) (b : BodyTree) (cs : Trees) → BodyKept b → EachKept cs
    → (here : Sight) (rank : Rank)
    (taken : List (List ℕ)) (symbol : Option (List ℕ)) (ms : Pairs) → is_symbolic rank ≡ is_some symbol
    → resource_in here rank taken (object ms) ≡ None → DescribesResource (symbol, object ms) (resource d b cs)
    → WrittenAs here rank taken (object ms) (written_resource (resource d b cs))
unfolding BodyKept
resource_object d (body_members xs) cs f g here rank taken symbol ms y e h =
    plain_resource d xs cs g here rank taken symbol ms y e h
resource_object d (deployment s ps t) cs f g here rank taken symbol ms y e h =
    deployed_resource d s ps t cs f g here rank taken symbol ms y e h

resource_from : (d : Declaration) (b : BodyTree) (cs : Trees) → BodyKept b → EachKept cs
    → ResourceKept (resource d b cs)
resource_from d b cs f g here rank taken symbol null y e h = cc
resource_from d b cs f g here rank taken symbol (bool c) y e h = cc
resource_from d b cs f g here rank taken symbol (int z) y e h = cc
resource_from d b cs f g here rank taken symbol (text t) y e h = cc
resource_from d b cs f g here rank taken symbol (array js) y e h = cc
resource_from d b cs f g here rank taken symbol (object ms) y e h =
    resource_object d b cs f g here rank taken symbol ms y e h

-- ---- templates

first_resources : (here : Sight) (form : Form) (ms : Pairs) → resources_of here form ms ≡ None
    → Holds (λ j. by_form form (array_in here Listed j) (symbols_in here j) ≡ None)
    (first_by (is_same_folded (codes "resources")) ms)
first_resources here form no_pairs e = tt
first_resources here form (pair k j ms) e =
    by_test (is_same_folded (codes "resources") k) (λ g. first_resources here form ms g) e
  where
    by_test : (b : Bool) → (resources_of here form ms ≡ None
        → Holds (λ i. by_form form (array_in here Listed i) (symbols_in here i) ≡ None)
        (first_by (is_same_folded (codes "resources")) ms))
        → (if b then named k (by_form form (array_in here Listed j) (symbols_in here j))
        else resources_of here form ms) ≡ None
        → Holds (λ i. by_form form (array_in here Listed i) (symbols_in here i) ≡ None)
        (if b then Some j else first_by (is_same_folded (codes "resources")) ms)
    by_test true h g = named_none k (by_form form (array_in here Listed j) (symbols_in here j)) g
    by_test false h g = h g

resources_nothing : (here : Sight) (form : Form) (ms : Pairs)
    → Holds (λ j. by_form form (array_in here Listed j) (symbols_in here j) ≡ None)
    (first_by (is_same_folded (codes "resources")) ms) → resources_of here form ms ≡ None
resources_nothing here form no_pairs h = refl
resources_nothing here form (pair k j ms) h =
    by_test (is_same_folded (codes "resources") k) (λ g. resources_nothing here form ms g) h
  where
    by_test : (b : Bool) → (Holds (λ i. by_form form (array_in here Listed i) (symbols_in here i) ≡ None)
        (first_by (is_same_folded (codes "resources")) ms) → resources_of here form ms ≡ None)
        → Holds (λ i. by_form form (array_in here Listed i) (symbols_in here i) ≡ None)
        (if b then Some j else first_by (is_same_folded (codes "resources")) ms)
        → (if b then named k (by_form form (array_in here Listed j) (symbols_in here j))
        else resources_of here form ms) ≡ None
    by_test true r g = ap (named k) g
    by_test false r g = r g

-- what is known of the resources of a template of the form, which are written as w
record ListedKept (here : Sight) (form : Form) (n : ℕ) (o : Option Json) (w : Json) : Type 0 where
  passes : by_form form (array_in here Listed w) (symbols_in here w) ≡ None
  within : nesting w ≤ n
  count : form_count form (Some w) ≡ form_count form o

listed_kept : (rs : Trees) → EachKept rs → SymbolsKept rs → (here : Sight) (form : Form) (n : ℕ) (o : Option Json)
    → is_some o ≡ true → Holds (λ j. by_form form (array_in here Listed j) (symbols_in here j) ≡ None) o
    → NestsWithin n o → DescribesResources (meaning.listed form o) rs
    → ListedKept here form n o (resources_by form (written_each rs) (written_by_symbol rs))
listed_kept rs f g here form n None y h w d = cc
listed_kept rs f g here One n (Some null) y h w d = cc
listed_kept rs f g here One n (Some (bool b)) y h w d = cc
listed_kept rs f g here One n (Some (int z)) y h w d = cc
listed_kept rs f g here One n (Some (text t)) y h w d = cc
listed_kept rs f g here One n (Some (array js)) y h w d =
    let k = f here Listed [] 0 js refl h d in
    record { passes = k.0; within = omega (arith, k.1, w); count = k.2 0 }
listed_kept rs f g here One n (Some (object ms)) y h w d = cc
listed_kept rs f g here Two n (Some null) y h w d = cc
listed_kept rs f g here Two n (Some (bool b)) y h w d = cc
listed_kept rs f g here Two n (Some (int z)) y h w d = cc
listed_kept rs f g here Two n (Some (text t)) y h w d = cc
listed_kept rs f g here Two n (Some (array js)) y h w d = cc
listed_kept rs f g here Two n (Some (object ms)) y h w d =
    let k = g here [] ms h d in
    record { passes = k.0; within = omega (arith, k.1, w); count = k.2 0 }

-- a template with these members, whose resources are written as r
template_written : (here : Sight) (place : Place) (ms : Pairs) (r : Json)
    → Sound template_members every (template_member here place) ms → count_fault ms ≡ None
    → ListedKept here (header_by (Some (object ms))).form (pairs_nesting ms) (inside (codes "resources") (Some
    (object ms))) r
    → (template_in here place (an_object (header_slots (header_by (Some (object ms))) r)) ≡ None)
    × (nesting (an_object (header_slots (header_by (Some (object ms))) r)) ≤ nesting (object ms))
    × (sight_of (an_object (header_slots (header_by (Some (object ms))) r)) ≡ sight_of (object ms))
template_written here place ms r s c l =
    let v = Some (object ms) in
    let n = pairs_nesting ms in
    let h = header_by v in
    let ss = header_slots h r in
    let ws = pairs (put_slots ss []) in
    let rule = template_member here place in
    let k = header_kept here place ms r s l.within in
    let apart = apart_slots every ss [] refl (free_nothing ss) tt in
    let found = single_found (codes "resources") ws refl apart ∙ look_slot (codes "resources") ss [] refl refl refl in
    let resources = resources_nothing here h.form ws
    (subst (Holds (λ j. by_form h.form (array_in here Listed j) (symbols_in here j) ≡ None)) (sym found) l.passes) in
    let faulty = faulty_nothing every rule ws (accepts_slots rule ss [] refl k.passes tt) apart in
    let there = slots_there template_members ss [] refl
    ((refl, refl, refl), ((refl, refl, refl), ((refl, refl, refl), tt))) in
    let number = ap₂ form_count (form_written h r) (look_inside (codes "resources") ws refl
    ∙ look_slot (codes "resources") ss [] refl refl refl)
    ∙ l.count ∙ ap₂ form_count (form_read ms) (sym (look_inside (codes "resources") ms refl)) in (
      ap (λ f. template_by here place ws (resources_of here f ws)) (form_written h r)
          ∙ ap₂ first_of (ap₂ decided there (ap₂ earlier faulty resources)) (counts_kept here place ms r s number c),
      object_within n ss k.within,
      sight_kept here place ms r s,
    )

template_object : (h : Header) (rs : Trees) → EachKept rs → SymbolsKept rs → (here : Sight) (place : Place) (ms : Pairs)
    → template_in here place (object ms) ≡ None → DescribesTemplate (Some (object ms)) (template h rs)
    → (template_in here place (written (template h rs))
    ≡ None) × (nesting (written (template h rs)) ≤ nesting (object ms))
    × (sight_of (written (template h rs)) ≡ sight_of (object ms))
template_object h rs f g here place ms e d =
    let v = Some (object ms) in
    let rule = template_member here place in
    let resources = resources_of here (form_in ms) ms in
    let members = earlier (faulty_by every rule [] ms) resources in
    let p = first_none (decided (missing template_members ms) members) (count_fault ms) e in
    let q = decided_none (missing template_members ms) members p.0 in
    let r = earlier_none (faulty_by every rule [] ms) resources q.1 in
    let k = faulty_none every rule ms r.0 in
    let s : Sound template_members every rule ms = record { there = q.0; accepted = k.0; apart = k.1 } in
    let there = missing_none template_members ms s.there in
    let form = form_read ms in
    let fine = subst (λ x. Holds (λ j. by_form x (array_in here Listed j) (symbols_in here j) ≡ None)
    (inside (codes "resources") v)) (sym form)
    (subst (Holds (λ j. by_form (form_in ms) (array_in here Listed j) (symbols_in here j) ≡ None))
    (single_found (codes "resources") ms refl s.apart) (first_resources here (form_in ms) ms r.1)) in
    let kept = listed_kept rs f g here (describes.form_of v) (pairs_nesting ms) (inside (codes "resources") v)
    (sym (has_inside (codes "resources") refl ms) ∙ there.1.1.0) fine (inside_within (codes "resources") ms) d.1 in
    subst (λ x. (template_in here place (written (template x rs)) ≡ None)
    × (nesting (written (template x rs)) ≤ nesting (object ms))
    × (sight_of (written (template x rs)) ≡ sight_of (object ms))) (sym d.0)
    (template_written here place ms
    (resources_by (describes.form_of v) (written_each rs) (written_by_symbol rs)) s p.1 kept)

template_from : (h : Header) (rs : Trees) → EachKept rs → SymbolsKept rs → TemplateKept (template h rs)
template_from h rs f g here place null e d = cc
template_from h rs f g here place (bool b) e d = cc
template_from h rs f g here place (int z) e d = cc
template_from h rs f g here place (text t) e d = cc
template_from h rs f g here place (array js) e d = cc
template_from h rs f g here place (object ms) e d = template_object h rs f g here place ms e d

mutual
  unfolding BodyKept

  pub template_kept : (t : TemplateTree) → TemplateKept t
  template_kept (template h rs) = template_from h rs (each_kept rs) (symbols_kept rs)

  each_kept : (rs : Trees) → EachKept rs
  each_kept no_resources = each_none
  each_kept (a_resource r rs) = each_more r rs (resource_kept r) (each_kept rs)

  symbols_kept : (rs : Trees) → SymbolsKept rs
  symbols_kept no_resources = symbols_none
  symbols_kept (a_resource r rs) = symbols_more r rs (resource_kept r) (symbols_kept rs)

  resource_kept : (r : ResourceTree) → ResourceKept r
  resource_kept (resource d b cs) = resource_from d b cs (body_kept b) (each_kept cs)

  body_kept : (b : BodyTree) → BodyKept b
  body_kept (body_members ms) = tt
  body_kept (deployment s ps t) = template_kept t

-- what is written of a template has no fault where the value that describes it has none, and nests no deeper
pub fault_kept : (v : Json) (t : TemplateTree) → template_fault v ≡ None → DescribesTemplate (Some v) t
    → template_fault (written t) ≡ None
fault_kept v t e d =
    let k = template_kept t (sight_of v) Variable v e d in
    ap (λ s. template_in s Variable (written t)) k.2 ∙ k.0

pub nesting_kept : (v : Json) (t : TemplateTree) → template_fault v ≡ None → DescribesTemplate (Some v) t
    → nesting (written t) ≤ nesting v
nesting_kept v t e d = (template_kept t (sight_of v) Variable v e d).1
