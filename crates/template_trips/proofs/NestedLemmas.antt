-- The properties of a nested deployment that have no fault, once they are written.
use Rattle.std.proofs.Common.{◌≡◌, ◌≤◌, ◌||◌, ℕ, suc, nat_lt, chars, codes, bytes_eq}
use Rattle.std.proofs.Common.{Bool, true, false, List, [], ◌∷◌, map, Option, Some, None, is_some, refl, sym, ap}
use Rattle.std.proofs.Common.{ap₂, ◌∙◌, subst, arith, if◌then◌else◌}
use Rattle.std.specs.List.{list_all}
use Rattle.foundation.proofs.Words.{eq_word}
use Rattle.arm_value.specs.Json.{Json, null, bool, int, text, array, object}
use Rattle.arm_value.specs.Json.{Pairs, no_pairs, pair, pairs, pair_keys, nesting}
use Rattle.arm_value.specs.Json.{pairs_nesting}
use Rattle.arm_value.specs.Look.{fold, is_same_folded, first_by, look}
use Rattle.foundation.proofs.AsciiWords as ascii
use Rattle.template_faults.specs.Faults.{named, earlier, seen_by}
use Rattle.template_faults.specs.Faults.{template_in}
use Rattle.template_faults.specs.Faults.{properties_by}
use Rattle.template_faults.specs.Faults.{properties_in, nested_of}
use Rattle.template_faults.specs.Properties.{property_members, property_member, mode_fault, is_scope, scope_fault}
use Rattle.template_faults.specs.Properties.{option_member, options_fault, scope_named, scope_given, scope_of, place_in}
use Rattle.template_faults.specs.Sights.{sight_of}
use Rattle.template_meaning.specs.Values.{inside, is_word}
use Rattle.template_meaning.specs.Parts.{argument_of, unlooped}
use Rattle.template_meaning.specs.Resources.{scope_in, arguments_in}
use Rattle.template_meaning.specs.Describes.{DescribesTemplate}
use Rattle.template_members.specs.Arguments.{arguments_fault}
use Rattle.template_members.specs.Objects.{every, faulty_by}
use Rattle.template_parts.specs.declared.content.Argument.{Argument}
use Rattle.template_parts.specs.declared.fault.TemplateFault.TheVariants.{WrongForm}
use Rattle.template_parts.specs.declared.mode.Scope.{Scope}
use Rattle.template_parts.specs.declared.mode.Scope.TheVariants.{Outer, Inner}
use Rattle.template_texts.specs.declared.sight.Sight.{Sight}
use Rattle.template_tree.specs.Tree.{TemplateTree}
use Rattle.template_values.specs.Order.{missing, decided}
use Rattle.template_written.specs.Slots.{Slot, put_slots, an_object, word, object_unless_empty}
use Rattle.template_written.specs.Slots.{NestsWithin}
use Rattle.template_written.specs.Parts.{written_argument}
use Rattle.template_written.specs.Written.{options_of, deployment_slots}
use Rattle.template_written.specs.Written.{written}
use Rattle.template_written.proofs.SlotLemmas.{look_slot}
use Rattle.written_parts.proofs.FaultLemmas.{Holds, decided_none, earlier_none}
use Rattle.written_parts.proofs.FaultLemmas.{named_none, Apart, faulty_none, faulty_nothing, At}
use Rattle.written_parts.proofs.FaultLemmas.{found_accepted, has_inside, look_single, exact_folds}
use Rattle.written_parts.proofs.ObjectLemmas.{SlotsPass, accepts_slots, apart_slots, slots_there}
use Rattle.written_parts.proofs.ObjectLemmas.{object_passes, object_within, inside_within, free_nothing}
use Rattle.written_parts.proofs.ValueLemmas.{by_object, missing_none, Kept}
use Rattle.written_resources.proofs.BodyLemmas.{look_inside}
use Rattle.template_trips.proofs.HeaderLemmas.{arguments_kept, place_kept}
use Rattle.template_trips.proofs.RowLemmas.{TemplateKept}

-- ---- the properties of a nested deployment

property_at : (here : Sight) (name : List ℕ) → At (property_member here) name
property_at here name k j e =
    ap (λ f. if bytes_eq (fold (codes "template")) f then None
    else (if bytes_eq (fold (codes "parameters")) f then arguments_fault here j
    else (if bytes_eq (fold (codes "mode")) f then mode_fault j
    else (if bytes_eq (fold (codes "expressionEvaluationOptions")) f then options_fault j else Some (WrongForm [])))))
    e

option_at : (name : List ℕ) → At option_member name
option_at name k j e = ap (λ f. if bytes_eq (fold (codes "scope")) f then scope_fault j else Some (WrongForm [])) e

scope_slots : List Slot
scope_slots = (codes "scope", Some (word (codes "inner"))) ∷ []

options_pass : (s : Scope) → Holds (λ j. options_fault j ≡ None) (options_of s)
unfolding scope_slots
options_pass Outer = tt
options_pass Inner =
    object_passes [] every option_member scope_slots refl tt
    (ap (λ t. if is_scope t then None else Some (WrongForm [])) (ascii.word (codes "inner") refl), tt)

options_within : (n : ℕ) (s : Scope) (o : Option Json) → NestsWithin n o → scope_given o ≡ s
    → Holds (λ j. options_fault j ≡ None) o → NestsWithin n (options_of s)
unfolding scope_slots
options_within n Outer o w e h = tt
options_within n Inner None w e h = cc
options_within n Inner (Some null) w e h = cc
options_within n Inner (Some (bool b)) w e h = cc
options_within n Inner (Some (int z)) w e h = cc
options_within n Inner (Some (text t)) w e h = cc
options_within n Inner (Some (array js)) w e h = cc
options_within n Inner (Some (object ms)) w e h =
    omega (arith, w, object_within 0 scope_slots (omega arith, tt))

look_there : (name : List ℕ) (j : Json) → list_all (λ b. nat_lt b 128) name ≡ true → look name j ≡ inside name (Some j)
look_there name j w = ap (λ n. look n j) (sym (ascii.word name w))

scope_back : (s : Scope) → scope_given (options_of s) ≡ s
unfolding scope_slots
scope_back Outer = refl
scope_back Inner =
    ap scope_named (look_there (codes "scope") (an_object scope_slots) refl
    ∙ look_slot (codes "scope") scope_slots [] refl refl refl)
    ∙ ap (λ t. if bytes_eq (codes "inner") t then Inner else Outer) (ascii.word (codes "inner") refl)

-- the word for a scope is read alike exactly and in letters of any case, since no other word is accepted
word_by : (t : List ℕ) (a b : Bool) → bytes_eq (codes "outer") t ≡ a → bytes_eq (codes "inner") t ≡ b
    → (if a || b then None else Some (WrongForm [])) ≡ None
    → (if is_same_folded (chars (codes "inner")) t then Inner else Outer) ≡ (if b then Inner else Outer)
word_by t true true e f g = by_inner t f
  where
    by_inner : (u : List ℕ) → bytes_eq (codes "inner") u ≡ true
        → (if is_same_folded (chars (codes "inner")) u then Inner else Outer) ≡ Inner
    by_inner u h =
        ap (λ w. if is_same_folded w u then Inner else Outer) (ascii.word (codes "inner") refl)
        ∙ ap (λ b. if b then Inner else Outer) (exact_folds (codes "inner") u h)
word_by t true false e f g =
    ap₂ (λ w u. if is_same_folded w u then Inner else Outer) (ascii.word (codes "inner") refl)
    (sym (eq_word (codes "outer") t e))
word_by t false true e f g =
    ap (λ w. if is_same_folded w t then Inner else Outer) (ascii.word (codes "inner") refl)
    ∙ ap (λ b. if b then Inner else Outer) (exact_folds (codes "inner") t f)
word_by t false false e f g = cc

scope_word : (o : Option Json) → Holds (λ j. scope_fault j ≡ None) o
    → (if is_word (codes "inner") o then Inner else Outer) ≡ scope_named o
scope_word None h = refl
scope_word (Some null) h = refl
scope_word (Some (bool b)) h = refl
scope_word (Some (int z)) h = refl
scope_word (Some (text t)) h =
    word_by t (bytes_eq (codes "outer") t) (bytes_eq (codes "inner") t) refl refl h
scope_word (Some (array js)) h = refl
scope_word (Some (object ms)) h = refl

scope_options : (j : Json) → options_fault j ≡ None
    → (if is_word (codes "inner") (inside (codes "scope") (Some j)) then Inner else Outer) ≡ scope_given (Some j)
scope_options j e =
    by_object [] every option_member
    (λ i. (if is_word (codes "inner") (inside (codes "scope") (Some i)) then Inner else Outer) ≡ scope_given (Some i))
    (λ ms s. scope_word (inside (codes "scope") (Some (object ms)))
    (found_accepted option_member (codes "scope") refl (option_at (codes "scope")) ms s.accepted)
    ∙ ap scope_named (sym (look_there (codes "scope") (object ms) refl))) j e

scope_there : (o : Option Json) → Holds (λ j. options_fault j ≡ None) o
    → (if is_word (codes "inner") (inside (codes "scope") o) then Inner else Outer) ≡ scope_given o
scope_there None h = refl
scope_there (Some j) h = scope_options j h

first_nested : (here : Sight) (scope : Scope) (ms : Pairs) → nested_of here scope ms ≡ None
    → Holds (λ j. template_in (seen_by here scope (sight_of j)) (place_in scope) j ≡ None)
    (first_by (is_same_folded (codes "template")) ms)
first_nested here scope no_pairs e = tt
first_nested here scope (pair k j ms) e =
    by_test (is_same_folded (codes "template") k) (λ g. first_nested here scope ms g) e
  where
    by_test : (b : Bool) → (nested_of here scope ms ≡ None
        → Holds (λ i. template_in (seen_by here scope (sight_of i)) (place_in scope) i ≡ None)
        (first_by (is_same_folded (codes "template")) ms))
        → (if b then named k (template_in (seen_by here scope (sight_of j)) (place_in scope) j)
        else nested_of here scope ms) ≡ None
        → Holds (λ i. template_in (seen_by here scope (sight_of i)) (place_in scope) i ≡ None)
        (if b then Some j else first_by (is_same_folded (codes "template")) ms)
    by_test true h g = named_none k (template_in (seen_by here scope (sight_of j)) (place_in scope) j) g
    by_test false h g = h g

nested_nothing : (here : Sight) (scope : Scope) (ms : Pairs)
    → Holds (λ j. template_in (seen_by here scope (sight_of j)) (place_in scope) j ≡ None)
    (first_by (is_same_folded (codes "template")) ms) → nested_of here scope ms ≡ None
nested_nothing here scope no_pairs h = refl
nested_nothing here scope (pair k j ms) h =
    by_test (is_same_folded (codes "template") k) (λ g. nested_nothing here scope ms g) h
  where
    by_test : (b : Bool) → (Holds (λ i. template_in (seen_by here scope (sight_of i)) (place_in scope) i ≡ None)
        (first_by (is_same_folded (codes "template")) ms) → nested_of here scope ms ≡ None)
        → Holds (λ i. template_in (seen_by here scope (sight_of i)) (place_in scope) i ≡ None)
        (if b then Some j else first_by (is_same_folded (codes "template")) ms)
        → (if b then named k (template_in (seen_by here scope (sight_of j)) (place_in scope) j)
        else nested_of here scope ms) ≡ None
    by_test true r g = ap (named k) g
    by_test false r g = r g

-- what a name is that may be there once alone
pub single_found : (name : List ℕ) (ms : Pairs) → list_all (λ b. nat_lt b 128) name ≡ true → Apart every (pair_keys ms)
    → first_by (is_same_folded name) ms ≡ inside name (Some (object ms))
single_found name ms w a = sym (look_single every name ms (λ l e. refl) a) ∙ look_inside name ms w

-- the properties of a nested deployment, written
properties_written : (sc : Scope) (ps : List Argument) (t : TemplateTree) → TemplateKept t → (here : Sight) (n : ℕ)
    (o options : Option Json) → is_some o ≡ true
    → Holds (λ j. template_in (seen_by here sc (sight_of j)) (place_in sc) j ≡ None) o → NestsWithin n o
    → DescribesTemplate o t → Holds (λ j. options_fault j ≡ None) options → NestsWithin n options
    → scope_given options ≡ sc
    → Holds (λ j. arguments_fault here j ≡ None) (object_unless_empty (map written_argument ps))
    → NestsWithin n (object_unless_empty (map written_argument ps))
    → (properties_in here (an_object (deployment_slots sc ps (written t))) ≡ None)
    × (nesting (an_object (deployment_slots sc ps (written t))) ≤ suc n)
properties_written sc ps t h here n None options y e w d f l g a b = cc
properties_written sc ps t h here n (Some j) options y e w d f l g a b =
    let rule = property_member here in
    let tw = written t in
    let ss = deployment_slots sc ps tw in
    let qs = pairs (put_slots ss []) in
    let k = h (seen_by here sc (sight_of j)) (place_in sc) j e d in
    let apart = apart_slots every ss [] refl (free_nothing ss) tt in
    let passes : SlotsPass rule ss = (
      ap (λ u. if is_same_folded (codes "Incremental") u then None else Some (WrongForm []))
          (ascii.word (codes "Incremental") refl),
      (options_pass sc, (a, (refl, tt))),
    ) in
    let found = single_found (codes "template") qs refl apart ∙ look_slot (codes "template") ss [] refl refl refl in
    let inner = ap (λ x. template_in (seen_by here sc x) (place_in sc) tw) k.2 ∙ k.0 in
    let scope = ap scope_given (look_inside (codes "expressionEvaluationOptions") qs refl
    ∙ look_slot (codes "expressionEvaluationOptions") ss [] refl refl refl) ∙ scope_back sc in (
      ap (λ x. properties_by here qs (nested_of here x qs)) scope
          ∙ ap₂ decided (slots_there property_members ss [] refl ((refl, refl, refl), tt))
          (ap₂ earlier (faulty_nothing every rule qs (accepts_slots rule ss [] refl passes tt) apart)
          (nested_nothing here sc qs
          (subst (Holds (λ i. template_in (seen_by here sc (sight_of i)) (place_in sc) i ≡ None)) (sym found) inner))),
      object_within n ss (
        omega arith,
        (options_within n sc options l g f, (b, (omega (arith, k.1, w), tt))),
      ),
    )

-- what is known of the properties of a nested deployment that are not refused
properties_kept : (s : Scope) (ps : List Argument) (t : TemplateTree) → TemplateKept t → (here : Sight) (qs : Pairs)
    → properties_in here (object qs) ≡ None → s ≡ scope_in (Some (object qs)) → ps ≡ arguments_in (Some (object qs))
    → DescribesTemplate (inside (codes "template") (Some (object qs))) t
    → Kept (properties_in here) (object qs) (an_object (deployment_slots s ps (written t)))
properties_kept s ps t h here qs e f g d =
    let v = Some (object qs) in
    let n = pairs_nesting qs in
    let sc = scope_of qs in
    let rule = property_member here in
    let p = decided_none (missing property_members qs)
    (earlier (faulty_by every rule [] qs) (nested_of here sc qs)) e in
    let q = earlier_none (faulty_by every rule [] qs) (nested_of here sc qs) p.1 in
    let k = faulty_none every rule qs q.0 in
    let options = found_accepted rule (codes "expressionEvaluationOptions") refl
    (property_at here (codes "expressionEvaluationOptions")) qs k.0 in
    let found = place_kept (arguments_fault here) (λ xs. map written_argument (map argument_of (unlooped xs))) n
    (inside (codes "parameters") v) refl (arguments_kept here)
    (found_accepted rule (codes "parameters") refl (property_at here (codes "parameters")) qs k.0)
    (inside_within (codes "parameters") qs) in
    let same : s ≡ sc = f ∙ scope_there (inside (codes "expressionEvaluationOptions") v) options
    ∙ ap scope_given (sym (look_inside (codes "expressionEvaluationOptions") qs refl)) in
    let there = missing_none property_members qs p.0 in
    let nested = subst (Holds (λ j. template_in (seen_by here sc (sight_of j)) (place_in sc) j ≡ None))
    (single_found (codes "template") qs refl k.1) (first_nested here sc qs q.1) in
    subst (λ x. Kept (properties_in here) (object qs) (an_object (deployment_slots x ps (written t)))) (sym same)
    (subst (λ x. Kept (properties_in here) (object qs) (an_object (deployment_slots sc x (written t)))) (sym g)
    (properties_written sc (arguments_in v) t h here n (inside (codes "template") v)
    (inside (codes "expressionEvaluationOptions") v)
    (sym (has_inside (codes "template") refl qs) ∙ there.0) nested (inside_within (codes "template") qs) d options
    (inside_within (codes "expressionEvaluationOptions") qs)
    (ap scope_given (sym (look_inside (codes "expressionEvaluationOptions") qs refl))) found.0 found.1))

properties_found_in : (here : Sight) (o : Option Json) → is_some o ≡ true → Holds (λ j. properties_in here j ≡ None) o
    → (qs : Pairs) × (o ≡ Some (object qs))
properties_found_in here None t h = cc
properties_found_in here (Some null) t h = cc
properties_found_in here (Some (bool b)) t h = cc
properties_found_in here (Some (int z)) t h = cc
properties_found_in here (Some (text s)) t h = cc
properties_found_in here (Some (array js)) t h = cc
properties_found_in here (Some (object qs)) t h = (qs, refl)

pub properties_from : (s : Scope) (ps : List Argument) (t : TemplateTree) → TemplateKept t → (here : Sight) (n : ℕ)
    (o : Option Json) → is_some o ≡ true → Holds (λ j. properties_in here j ≡ None) o → NestsWithin n o
    → s ≡ scope_in o → ps ≡ arguments_in o → DescribesTemplate (inside (codes "template") o) t
    → (properties_in here (an_object (deployment_slots s ps (written t))) ≡ None)
    × (nesting (an_object (deployment_slots s ps (written t))) ≤ n)
properties_from s ps t h here n None y e w f g d = cc
properties_from s ps t h here n (Some null) y e w f g d = cc
properties_from s ps t h here n (Some (bool b)) y e w f g d = cc
properties_from s ps t h here n (Some (int z)) y e w f g d = cc
properties_from s ps t h here n (Some (text u)) y e w f g d = cc
properties_from s ps t h here n (Some (array js)) y e w f g d = cc
properties_from s ps t h here n (Some (object qs)) y e w f g d =
    let k = properties_kept s ps t h here qs e f g d in (k.0, omega (arith, k.1, w))
