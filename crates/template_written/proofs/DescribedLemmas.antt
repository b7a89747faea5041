-- A template that is written is described by its value.
use Rattle.std.proofs.Common.{◌≡◌, ℕ, pos, nat_le, nat_lt, chars, codes, Bool, true, false, ◌&&◌}
use Rattle.std.proofs.Common.{List, [], ◌∷◌, map, Option, Some, None, option_map, is_some, Ordering, Less, Equal}
use Rattle.std.proofs.Common.{Greater}
use Rattle.std.proofs.Common.{if◌then◌else◌, refl, sym, ap, ap₂, ◌∙◌, subst}
use Rattle.std.specs.List.{list_all}
use Rattle.std.specs.Ordering.{match_ordering}
use Rattle.std.proofs.lemmas.Slice.Eq.{bytes_eq-Decides}
use Rattle.arm_value.specs.Json.{Json, text, object, Member, pairs, keys, put}
use Rattle.arm_value.specs.Json.{key_cmp}
use Rattle.arm_value.specs.Look.{fold, is_same_folded, first_by}
use Rattle.arm_value.specs.View.{json}
use Rattle.arm_value.proofs.SetLemmas.{equal_keys}
use Rattle.arm_value.proofs.TreeLemmas.{members-pairs}
use Rattle.template_parts.specs.declared.content.Argument.{Argument}
use Rattle.template_parts.specs.declared.declaration.Declaration.{Declaration}
use Rattle.template_parts.specs.declared.looping.Batches.{Batches}
use Rattle.template_parts.specs.declared.looping.Batches.TheVariants.{Parallel, Serial}
use Rattle.template_parts.specs.declared.looping.ResourceCopy.{ResourceCopy}
use Rattle.template_parts.specs.declared.mode.Form.{Form}
use Rattle.template_parts.specs.declared.mode.Form.TheVariants.{One, Two}
use Rattle.template_parts.specs.declared.mode.Scope.{Scope}
use Rattle.template_parts.specs.declared.mode.Scope.TheVariants.{Outer, Inner}
use Rattle.template_meaning.specs.Values.{Place, inside, optional, value_in, text_in, number_in, text_is, is_word}
use Rattle.template_meaning.specs.Values.{items_in}
use Rattle.template_meaning.specs.Values.{members_in, is_true}
use Rattle.template_meaning.specs.Parts.{parameter_of, variables_of, output_of, unlooped, argument_of}
use Rattle.template_meaning.specs.Resources.{Listed, unnamed, listed, batch_size, copy_by}
use Rattle.template_meaning.specs.Resources.{copy_in}
use Rattle.template_meaning.specs.Resources.{declaration_of, is_named, is_outside, body_of}
use Rattle.template_meaning.specs.Resources.{is_deployment, scope_in, arguments_in}
use Rattle.template_meaning.specs.Describes.{form_of, header_by, DescribesTemplate, DescribesResource, DescribesBody}
use Rattle.template_meaning.specs.Describes.{DescribesResources}
use Rattle.template_meaning.proofs.ValueLemmas.{value_back}
use Rattle.template_tree.specs.Tree.{Header, TemplateTree, template, ResourceTree, resource, BodyTree, body_members}
use Rattle.template_tree.specs.Tree.{deployment, Trees, no_resources, a_resource}
use Rattle.template_written.specs.Slots.{Slot, put_slot, put_slots, an_object, word, array_unless_empty}
use Rattle.template_written.specs.Parts.{written_parameter, written_variables, written_output, written_argument}
use Rattle.template_written.specs.Parts.{mode_of, size_of, copy_slots, true_or_none, declaration_slots}
use Rattle.template_written.specs.Written.{version_of, header_slots, options_of, deployment_slots, name_or_none}
use Rattle.template_written.specs.Written.{resources_by, written, written_each, written_by_symbol, written_resource}
use Rattle.template_written.specs.Written.{written_body}
use Rattle.template_written.specs.Keeps.{NoneLoops, KeepsHeader, KeepsSymbol, KeepsBatches, KeepsCopy, AllInside}
use Rattle.template_written.specs.Keeps.{deployments, Keeps, KeepEach, KeepsResource, KeepsBody}
use Rattle.template_written.proofs.SlotLemmas.{look_slot, slot_at}
use Rattle.template_written.proofs.BackLemmas.{optional_back, members_unless, items_unless, is_word-word}
use Rattle.template_written.proofs.BackLemmas.{parameter_back}
use Rattle.template_written.proofs.BackLemmas.{output_back, argument_back, map_back}
use Rattle.template_written.proofs.VariableLemmas.{all_unlooped, variables_back}
use Rattle.foundation.proofs.TruthValues.{or_true}
use Rattle.arm_value.proofs.SameLemmas.{items-row}

-- ---- all of a template but its resources

in_header : (h : Header) (r : Json) (name : List ℕ) → list_all (λ b. nat_lt b 128) name ≡ true
    → inside name (Some (an_object (header_slots h r))) ≡ slot_at name (header_slots h r)
in_header h r name a = look_slot name (header_slots h r) [] a refl refl

version_back : (f : Form) → (if text_is (codes "2.0") (version_of f) then Two else One) ≡ f
version_back One = refl
version_back Two =
    ap (λ b. if b then Two else One) ((bytes_eq-Decides (chars (codes "2.0")) (chars (codes "2.0"))).1 refl)

pub form_back : (h : Header) (r : Json) → form_of (Some (an_object (header_slots h r))) ≡ h.form
form_back h r =
    ap (λ o. if text_is (codes "2.0") o then Two else One) (in_header h r (codes "languageVersion") refl)
    ∙ version_back h.form

pub header_back : (h : Header) (r : Json) → KeepsHeader h → h ≡ header_by (Some (an_object (header_slots h r)))
header_back h r k = sym (λ x. record {
  form = form_back h r x;
  schema = ap text_in (in_header h r (codes "$schema") refl) x;
  content_version = ap text_in (in_header h r (codes "contentVersion") refl) x;
  parameters = (ap (λ o. map parameter_of (members_in o)) (in_header h r (codes "parameters") refl)
      ∙ ap (map parameter_of) (members_unless (map written_parameter h.parameters))
      ∙ map_back written_parameter parameter_of parameter_back h.parameters) x;
  variables = (ap (λ o. variables_of (members_in o)) (in_header h r (codes "variables") refl)
      ∙ ap variables_of (members_unless (written_variables h.variables)) ∙ variables_back h.variables k.variables) x;
  outputs = (ap (λ o. map output_of (members_in o)) (in_header h r (codes "outputs") refl)
      ∙ ap (map output_of) (members_unless (map written_output h.outputs))
      ∙ map_back written_output output_of output_back h.outputs) x;
})

-- ---- what declares a resource

-- members of a body, of which none has one of these names
none_named : (p : List ℕ → Bool) (symbol : Option (List ℕ)) (ms : List Member)
    → ((k : List ℕ) → p k ≡ true → is_outside symbol k ≡ true) → AllInside symbol (keys ms)
    → first_by p (pairs ms) ≡ None
none_named p symbol [] h a = refl
none_named p symbol (m ∷ ms) h a =
    ap (λ b. if b then Some m.1 else first_by p (pairs ms)) (false_by (p m.0) refl)
    ∙ none_named p symbol ms h a.1
  where
    false_by : (b : Bool) → p m.0 ≡ b → b ≡ false
    false_by true e = let d : true ≡ false = sym (h m.0 e) ∙ a.0 in cc
    false_by false e = refl

outside_type : (s : Option (List ℕ)) (k : List ℕ) → is_named (codes "type") k ≡ true → is_outside s k ≡ true
outside_type s k e = simp e

outside_api : (s : Option (List ℕ)) (k : List ℕ) → is_named (codes "apiVersion") k ≡ true → is_outside s k ≡ true
outside_api s k e = simp (e, or_true)

outside_name : (s : Option (List ℕ)) (k : List ℕ) → is_named (codes "name") k ≡ true → is_outside s k ≡ true
outside_name s k e = simp (e, or_true)

outside_condition : (s : Option (List ℕ)) (k : List ℕ) → is_named (codes "condition") k ≡ true → is_outside s k ≡ true
outside_condition s k e = simp (e, or_true)

outside_depends : (s : Option (List ℕ)) (k : List ℕ) → is_named (codes "dependsOn") k ≡ true → is_outside s k ≡ true
outside_depends s k e = simp (e, or_true)

outside_copy : (s : Option (List ℕ)) (k : List ℕ) → is_named (codes "copy") k ≡ true → is_outside s k ≡ true
outside_copy s k e = simp (e, or_true)

outside_metadata : (s : Option (List ℕ)) (k : List ℕ) → is_named (codes "metadata") k ≡ true → is_outside s k ≡ true
outside_metadata s k e = simp (e, or_true)

outside_resources : (s : Option (List ℕ)) (k : List ℕ) → is_named (codes "resources") k ≡ true
    → is_outside s k ≡ true
outside_resources s k e = simp (e, or_true)

outside_existing : (s : List ℕ) (k : List ℕ) → is_named (codes "existing") k ≡ true → is_outside (Some s) k ≡ true
outside_existing s k e = simp (e, or_true)

-- what is found of a declaration in a value, with the children
record Declares (d : Declaration) (children : List Json) (j : Json) : Type 0 where
  kind : inside (codes "type") (Some j) ≡ Some (text d.kind)
  api_version : inside (codes "apiVersion") (Some j) ≡ Some (text d.api_version)
  name : inside (codes "name") (Some j) ≡ Some (json d.name)
  condition : inside (codes "condition") (Some j) ≡ option_map json d.condition
  depends_on : inside (codes "dependsOn") (Some j) ≡ array_unless_empty d.depends_on
  copy : inside (codes "copy") (Some j) ≡ option_map (λ c. an_object (copy_slots c)) d.copy
  metadata : inside (codes "metadata") (Some j) ≡ option_map json d.metadata
  existing : (is_some d.symbol && is_true (inside (codes "existing") (Some j))) ≡ d.existing
  resources : inside (codes "resources") (Some j) ≡ array_unless_empty children

existing_by : (o : Option (List ℕ)) (e : Bool) (p : Place) → (o ≡ None → e ≡ false)
    → ((s : List ℕ) → o ≡ Some s → is_true p ≡ e) → (is_some o && is_true p) ≡ e
existing_by None e p none some = sym (none refl)
existing_by (Some s) e p none some = some s refl

truth_back : (b : Bool) → is_true (true_or_none b) ≡ b
truth_back true = refl
truth_back false = refl

-- only a resource with a symbolic name exists
none_exists : (f : Form) (d : Declaration) → KeepsSymbol f d → d.symbol ≡ None → d.existing ≡ false
none_exists One d k n = k.1
none_exists Two d k n = let c : false ≡ true = sym (ap (λ (o : Option (List ℕ)). is_some o) n) ∙ k in cc

declares_body : (f : Form) (d : Declaration) (children : List Json) (ms : List Member) → KeepsSymbol f d
    → AllInside d.symbol (keys ms)
    → Declares d children (object (pairs (put_slots (declaration_slots d children) ms)))
declares_body f d children ms k all =
    let ss = declaration_slots d children in
    let free : (p : List ℕ → Bool) → ((k : List ℕ) → p k ≡ true → is_outside d.symbol k ≡ true)
    → first_by p (pairs ms) ≡ None = λ p h. none_named p d.symbol ms h all in
    record {
      kind = look_slot (codes "type") ss ms refl refl (free _ (outside_type d.symbol));
      api_version = look_slot (codes "apiVersion") ss ms refl refl (free _ (outside_api d.symbol));
      name = look_slot (codes "name") ss ms refl refl (free _ (outside_name d.symbol));
      condition = look_slot (codes "condition") ss ms refl refl (free _ (outside_condition d.symbol));
      depends_on = look_slot (codes "dependsOn") ss ms refl refl (free _ (outside_depends d.symbol));
      copy = look_slot (codes "copy") ss ms refl refl (free _ (outside_copy d.symbol));
      metadata = look_slot (codes "metadata") ss ms refl refl (free _ (outside_metadata d.symbol));
      existing = existing_by d.symbol d.existing (inside (codes "existing") (Some (object (pairs (put_slots ss ms)))))
          (none_exists f d k)
          (λ s e. ap is_true (look_slot (codes "existing") ss ms refl refl
          (free _ (λ n h. ap (λ o. is_outside o n) e ∙ outside_existing s n h))) ∙ truth_back d.existing);
      resources = look_slot (codes "resources") ss ms refl refl (free _ (outside_resources d.symbol));
    }

-- of a resource whose body is one member that is written beside the declaration
deployed_slots : Declaration → List Json → Json → List Slot
deployed_slots d children p = (codes "properties", Some p) ∷ declaration_slots d children

declares_deployment : (f : Form) (d : Declaration) (children : List Json) (p : Json) → KeepsSymbol f d
    → Declares d children (an_object (deployed_slots d children p))
unfolding deployed_slots
declares_deployment f d children p k =
    let ss = deployed_slots d children p in
    record {
      kind = look_slot (codes "type") ss [] refl refl refl;
      api_version = look_slot (codes "apiVersion") ss [] refl refl refl;
      name = look_slot (codes "name") ss [] refl refl refl;
      condition = look_slot (codes "condition") ss [] refl refl refl;
      depends_on = look_slot (codes "dependsOn") ss [] refl refl refl;
      copy = look_slot (codes "copy") ss [] refl refl refl;
      metadata = look_slot (codes "metadata") ss [] refl refl refl;
      existing = existing_by d.symbol d.existing (inside (codes "existing") (Some (an_object ss)))
          (none_exists f d k)
          (λ s e. ap is_true (look_slot (codes "existing") ss [] refl refl refl) ∙ truth_back d.existing);
      resources = look_slot (codes "resources") ss [] refl refl refl;
    }

-- ---- loops of resources

size_kept : (n : ℕ) → nat_le n 800 ≡ true → batch_size (Some (pos n)) ≡ n
size_kept n h = ap (λ b. if b then n else 1) h

batches_by : (o p : Place) → Batches
batches_by o p = if is_word (codes "serial") o then Serial (batch_size (number_in p)) else Parallel

batches_kept : (b : Batches) → KeepsBatches b → batches_by (mode_of b) (size_of b) ≡ b
unfolding batches_by
batches_kept Parallel k = refl
batches_kept (Serial n) k =
    ap₂ (λ b m. if b then Serial m else Parallel) (is_word-word (codes "serial") (codes "serial") refl refl)
    (size_kept n k)

copy_back : (c : ResourceCopy) → KeepsBatches c.batches → copy_by (Some (an_object (copy_slots c))) ≡ c
unfolding batches_by
copy_back c k =
    let ss = copy_slots c in
    λ x. record {
      name = ap text_in (look_slot (codes "name") ss [] refl refl refl) x;
      count = (ap value_in (look_slot (codes "count") ss [] refl refl refl) ∙ value_back c.count) x;
      batches = (ap₂ batches_by (look_slot (codes "mode") ss [] refl refl refl)
          (look_slot (codes "batchSize") ss [] refl refl refl) ∙ batches_kept c.batches k) x;
    }

copy_in_back : (o : Option ResourceCopy) → KeepsCopy o → copy_in (option_map (λ c. an_object (copy_slots c)) o) ≡ o
copy_in_back None k = refl
copy_in_back (Some c) k = ap Some (copy_back c k)

declaration_back : (d : Declaration) (children : List Json) (j : Json) → Declares d children j → KeepsCopy d.copy
    → d ≡ declaration_of d.symbol (Some j)
declaration_back d children j k c = sym (λ x. record {
  symbol = d.symbol;
  existing = k.existing x;
  kind = ap text_in k.kind x;
  api_version = ap text_in k.api_version x;
  name = (ap value_in k.name ∙ value_back d.name) x;
  condition = (ap optional k.condition ∙ optional_back d.condition) x;
  depends_on = (ap items_in k.depends_on ∙ items_unless d.depends_on) x;
  copy = (ap copy_in k.copy ∙ copy_in_back d.copy c) x;
  metadata = (ap optional k.metadata ∙ optional_back d.metadata) x;
})

-- ---- bodies

body_by : (s : Option (List ℕ)) (k : List ℕ) (j : Json) (m : Member) (ms : List Member) (o : Ordering)
    → key_cmp k m.0 ≡ o → is_outside s k ≡ true → body_of s (put k j ms) ≡ body_of s ms
    → body_of s (match_ordering o ((k, j) ∷ m ∷ ms) ((k, j) ∷ ms) (m ∷ put k j ms)) ≡ body_of s (m ∷ ms)
body_by s k j m ms Less e c h = ap (λ b. if b then body_of s (m ∷ ms) else (k, j) ∷ body_of s (m ∷ ms)) c
body_by s k j m ms Equal e c h =
    ap (λ b. if b then body_of s ms else (k, j) ∷ body_of s ms) c
    ∙ sym (ap (λ b. if b then body_of s ms else m ∷ body_of s ms)
    (ap (is_outside s) (sym (equal_keys k m.0 e)) ∙ c))
body_by s k j m ms Greater e c h = ap (λ r. if is_outside s m.0 then r else m ∷ r) h

-- a member that declares the resource is not of its body
body_put : (s : Option (List ℕ)) (k : List ℕ) (j : Json) (ms : List Member) → is_outside s k ≡ true
    → body_of s (put k j ms) ≡ body_of s ms
body_put s k j [] c = ap (λ b. if b then [] else (k, j) ∷ []) c
body_put s k j (m ∷ ms) c = body_by s k j m ms (key_cmp k m.0) refl c (body_put s k j ms c)

-- each slot that is there declares the resource
AllOutside : Option (List ℕ) → List Slot → Type 0
AllOutside s [] = Unit {0}
AllOutside s (t ∷ ts) = ((j : Json) → t.1 ≡ Some j → is_outside s (chars t.0) ≡ true) × AllOutside s ts

body_slot : (s : Option (List ℕ)) (k : List ℕ) (o : Option Json) (ms : List Member)
    → ((j : Json) → o ≡ Some j → is_outside s (chars k) ≡ true) → body_of s (put_slot k o ms) ≡ body_of s ms
unfolding put_slot
body_slot s k None ms h = refl
body_slot s k (Some j) ms h = body_put s (chars k) j ms (h j refl)

body_slots : (s : Option (List ℕ)) (ts : List Slot) (ms : List Member) → AllOutside s ts
    → body_of s (put_slots ts ms) ≡ body_of s ms
unfolding AllOutside
body_slots s [] ms h = refl
body_slots s (t ∷ ts) ms h = body_slots s ts (put_slot t.0 t.1 ms) h.1 ∙ body_slot s t.0 t.1 ms h.0

body_inside : (s : Option (List ℕ)) (ms : List Member) → AllInside s (keys ms) → body_of s ms ≡ ms
body_inside s [] h = refl
body_inside s (m ∷ ms) h =
    ap (λ b. if b then body_of s ms else m ∷ body_of s ms) h.0 ∙ ap (λ r. m ∷ r) (body_inside s ms h.1)

-- a word is itself, in letters of any case
itself : (w : List ℕ) → is_same_folded w w ≡ true
itself w = (bytes_eq-Decides (fold w) (fold w)).1 refl

existing_outside : (f : Form) (d : Declaration) (j : Json) → KeepsSymbol f d → true_or_none d.existing ≡ Some j
    → is_outside d.symbol (chars (codes "existing")) ≡ true
existing_outside f d j k e = by_symbol d.symbol refl
  where
    exists_by : (b : Bool) → true_or_none b ≡ Some j → b ≡ false → ⊥
    exists_by true g h = let c : true ≡ false = h in cc
    exists_by false g h = cc

    by_symbol : (o : Option (List ℕ)) → d.symbol ≡ o → is_outside o (chars (codes "existing")) ≡ true
    by_symbol None n = absurd (exists_by d.existing e (none_exists f d k n))
    by_symbol (Some s) n = outside_existing s (chars (codes "existing")) (itself (chars (codes "existing")))

slots_outside : (f : Form) (d : Declaration) (children : List Json) → KeepsSymbol f d
    → AllOutside d.symbol (declaration_slots d children)
unfolding AllOutside
slots_outside f d children k =
    let s = d.symbol in (
      λ j e. outside_type s (chars (codes "type")) (itself (chars (codes "type"))),
      (
        λ j e. outside_api s (chars (codes "apiVersion")) (itself (chars (codes "apiVersion"))),
        (
          λ j e. outside_name s (chars (codes "name")) (itself (chars (codes "name"))),
          (
            λ j e. outside_condition s (chars (codes "condition")) (itself (chars (codes "condition"))),
            (
              λ j e. outside_depends s (chars (codes "dependsOn")) (itself (chars (codes "dependsOn"))),
              (
                λ j e. outside_copy s (chars (codes "copy")) (itself (chars (codes "copy"))),
                (
                  λ j e. outside_metadata s (chars (codes "metadata")) (itself (chars (codes "metadata"))),
                  (
                    λ j e. existing_outside f d j k e,
                    (λ j e. outside_resources s (chars (codes "resources")) (itself (chars (codes "resources"))), tt),
                  ),
                ),
              ),
            ),
          ),
        ),
      ),
    )

-- ---- nested deployments

in_properties : (s : Scope) (ps : List Argument) (t : Json) (name : List ℕ) → list_all (λ b. nat_lt b 128) name ≡ true
    → inside name (Some (an_object (deployment_slots s ps t))) ≡ slot_at name (deployment_slots s ps t)
in_properties s ps t name a = look_slot name (deployment_slots s ps t) [] a refl refl

options_back : (s : Scope) → (if is_word (codes "inner") (inside (codes "scope") (options_of s)) then Inner else Outer)
    ≡ s
options_back Outer = refl
options_back Inner =
    let ss : List Slot = (codes "scope", Some (word (codes "inner"))) ∷ [] in
    ap (λ o. if is_word (codes "inner") o then Inner else Outer) (look_slot (codes "scope") ss [] refl refl refl)
    ∙ ap (λ b. if b then Inner else Outer) (is_word-word (codes "inner") (codes "inner") refl refl)

scope_back : (s : Scope) (ps : List Argument) (t : Json) → scope_in (Some (an_object (deployment_slots s ps t))) ≡ s
scope_back s ps t =
    ap (λ o. if is_word (codes "inner") (inside (codes "scope") o) then Inner else Outer)
    (in_properties s ps t (codes "expressionEvaluationOptions") refl) ∙ options_back s

argument_keys : (ps : List Argument) → keys (map written_argument ps) ≡ map (λ a. a.name) ps
argument_keys [] = refl
argument_keys (a ∷ ps) = ap (λ r. a.name ∷ r) (argument_keys ps)

arguments_back : (s : Scope) (ps : List Argument) (t : Json) → NoneLoops (map (λ a. a.name) ps)
    → arguments_in (Some (an_object (deployment_slots s ps t))) ≡ ps
arguments_back s ps t n =
    ap (λ o. map argument_of (unlooped (members_in o))) (in_properties s ps t (codes "parameters") refl)
    ∙ ap (λ ms. map argument_of (unlooped ms)) (members_unless (map written_argument ps))
    ∙ ap (map argument_of) (all_unlooped (map written_argument ps) (subst NoneLoops (sym (argument_keys ps)) n))
    ∙ map_back written_argument argument_of argument_back ps

-- ---- templates

symbol_there : (o : Option (List ℕ)) → is_some o ≡ true → Some (name_or_none o) ≡ o
symbol_there None h = cc
symbol_there (Some s) h = refl

as_symbol : (f : Form) → Option (List ℕ) → Option (List ℕ)
as_symbol One o = None
as_symbol Two o = Some (name_or_none o)

symbol_kept : (f : Form) (d : Declaration) → KeepsSymbol f d → as_symbol f d.symbol ≡ d.symbol
unfolding as_symbol
symbol_kept One d k = sym k.0
symbol_kept Two d k = symbol_there d.symbol k

own_symbol : ResourceTree → Option (List ℕ)
own_symbol (resource d b rs) = d.symbol

-- the resources as they are listed in a template of the form
listed_as : Form → Trees → List Listed
listed_as f no_resources = []
listed_as f (a_resource r rs) = (as_symbol f (own_symbol r), written_resource r) ∷ listed_as f rs

each_listed : (rs : Trees) → map (λ j. (None, j)) (written_each rs) ≡ listed_as One rs
unfolding listed_as as_symbol own_symbol
each_listed no_resources = refl
each_listed (a_resource (resource d b cs) rs) =
    ap (λ ls. (None, written_resource (resource d b cs)) ∷ ls) (each_listed rs)

named_listed : (rs : Trees) → map (λ m. (Some m.0, m.1)) (written_by_symbol rs) ≡ listed_as Two rs
unfolding listed_as as_symbol own_symbol
named_listed no_resources = refl
named_listed (a_resource (resource d b cs) rs) =
    ap (λ ls. (Some (name_or_none d.symbol), written_resource (resource d b cs)) ∷ ls) (named_listed rs)

listed_back : (f : Form) (rs : Trees)
    → listed f (Some (resources_by f (written_each rs) (written_by_symbol rs))) ≡ listed_as f rs
listed_back One rs = ap (map (λ j. (None, j))) (items-row (written_each rs)) ∙ each_listed rs
listed_back Two rs =
    ap (map (λ (m : Member). (Some m.0, m.1))) (members-pairs (written_by_symbol rs)) ∙ named_listed rs

declares : (f : Form) (d : Declaration) (js : List Json) (b : BodyTree) → KeepsSymbol f d → KeepsBody d b
    → Declares d js (object (pairs (put_slots (declaration_slots d js) (written_body b))))
unfolding deployed_slots
declares f d js (body_members ms) k b = declares_body f d js ms k b.1
declares f d js (deployment s ps t) k b =
    declares_deployment f d js (an_object (deployment_slots s ps (written t))) k

is_type : (d : Declaration) (js : List Json) (j : Json) (b : Bool) → Declares d js j
    → is_named deployments d.kind ≡ b → is_deployment (Some j) ≡ b
is_type d js j b k e = ap (is_word deployments) k.kind ∙ e

children_back : (d : Declaration) (cs : Trees) (j : Json) → Declares d (written_each cs) j
    → unnamed (inside (codes "resources") (Some j)) ≡ listed_as One cs
children_back d cs j k =
    ap (λ o. map (λ i. (None, i)) (items_in o)) k.resources
    ∙ ap (map (λ i. (None, i))) (items_unless (written_each cs)) ∙ each_listed cs

in_deployed : (d : Declaration) (js : List Json) (p : Json)
    → inside (codes "properties") (Some (an_object (deployed_slots d js p))) ≡ Some p
unfolding deployed_slots
in_deployed d js p = look_slot (codes "properties") (deployed_slots d js p) [] refl refl refl

members_body : (f : Form) (d : Declaration) (js : List Json) (ms : List Member) → KeepsSymbol f d
    → KeepsBody d (body_members ms)
    → DescribesBody (d.symbol, object (pairs (put_slots (declaration_slots d js) ms))) (body_members ms)
members_body f d js ms k b =
    let all = put_slots (declaration_slots d js) ms in (
      is_type d js (object (pairs all)) false (declares_body f d js ms k b.1) b.0,
      sym (ap (body_of d.symbol) (members-pairs all) ∙ body_slots d.symbol (declaration_slots d js) ms
          (slots_outside f d js k) ∙ body_inside d.symbol ms b.1),
    )

deployed_body : (f : Form) (d : Declaration) (js : List Json) (s : Scope) (ps : List Argument) (t : TemplateTree)
    → KeepsSymbol f d → KeepsBody d (deployment s ps t) → DescribesTemplate (Some (written t)) t
    → DescribesBody (d.symbol, an_object (deployed_slots d js (an_object (deployment_slots s ps (written t)))))
    (deployment s ps t)
deployed_body f d js s ps t k b h =
    let p = an_object (deployment_slots s ps (written t)) in
    let found = in_deployed d js p in (
      is_type d js (an_object (deployed_slots d js p)) true (declares_deployment f d js p k) b.0,
      sym (ap scope_in found ∙ scope_back s ps (written t)),
      sym (ap arguments_in found ∙ arguments_back s ps (written t) b.2),
      subst (λ o. DescribesTemplate o t)
          (sym (ap (inside (codes "template")) found ∙ in_properties s ps (written t) (codes "template") refl)) h,
    )

mutual
  unfolding listed_as own_symbol deployed_slots

  pub described : (t : TemplateTree) → Keeps t → DescribesTemplate (Some (written t)) t
  described (template h rs) k =
      let j = resources_by h.form (written_each rs) (written_by_symbol rs) in (
        header_back h j k.0,
        subst (λ ls. DescribesResources ls rs)
            (sym (ap₂ listed (form_back h j) (in_header h j (codes "resources") refl) ∙ listed_back h.form rs))
            (described_all h.form rs k.2),
      )

  described_all : (f : Form) (rs : Trees) → KeepEach f rs → DescribesResources (listed_as f rs) rs
  described_all f no_resources k = refl
  described_all f (a_resource r rs) k = (described_resource f r k.0, described_all f rs k.1)

  described_resource : (f : Form) (r : ResourceTree) → KeepsResource f r
      → DescribesResource (as_symbol f (own_symbol r), written_resource r) r
  described_resource f (resource d b cs) k =
      let j = written_resource (resource d b cs) in
      let found = declares f d (written_each cs) b k.0 k.2 in
      subst (λ o. DescribesResource (o, j) (resource d b cs)) (sym (symbol_kept f d k.0)) (
        declaration_back d (written_each cs) j found k.1,
        described_body f d (written_each cs) b k.0 k.2,
        subst (λ ls. DescribesResources ls cs) (sym (children_back d cs j found)) (described_all One cs k.3),
      )

  described_body : (f : Form) (d : Declaration) (js : List Json) (b : BodyTree) → KeepsSymbol f d → KeepsBody d b
      → DescribesBody (d.symbol, object (pairs (put_slots (declaration_slots d js) (written_body b)))) b
  described_body f d js (body_members ms) k b = members_body f d js ms k b
  described_body f d js (deployment s ps t) k b = deployed_body f d js s ps t k b (described t b.3)
