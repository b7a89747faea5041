-- All of a template that has no fault but its resources, once it is written: what is refused, seen and counted.
use Rattle.std.proofs.Common.{◌≡◌, ◌≤◌, ◌||◌, ◌+◌, ◌++◌, ℕ, suc, nat_lt, chars, codes, bytes_eq, Bool, true, false}
use Rattle.std.proofs.Common.{List, [], ◌∷◌, map, Option, Some, None, is_some, refl, sym, ap, ap₂, ◌∙◌, subst, arith}
use Rattle.std.proofs.Common.{if◌then◌else◌, Ordering, Less, Equal, Greater}
use Rattle.std.specs.List.{list_all}
use Rattle.std.specs.Ordering.{match_ordering}
use Rattle.arm_value.specs.Json.{Json, null, bool, int, text, array, object, Row, no_items, item, row, items, Member}
use Rattle.arm_value.specs.Json.{Pairs, no_pairs, pair, pairs, members, keys, pair_keys, put, key_cmp, nesting}
use Rattle.arm_value.specs.Json.{pairs_nesting, members_nesting}
use Rattle.arm_value.specs.Look.{fold, first_by, look_in}
use Rattle.arm_value.proofs.SetLemmas.{equal_keys}
use Rattle.arm_value.proofs.TreeLemmas.{pairs-members, row-items}
use Rattle.arm_expr.specs.Brackets.{is_bracketed, is_copy}
use Rattle.foundation.proofs.AsciiWords as ascii
use Rattle.foundation.proofs.TruthValues.{or_right}
use Rattle.template_faults.specs.Counts.{total, pairs_length, member_count, plain_count, loop_count}
use Rattle.template_faults.specs.Counts.{variable_count, resource_count, beyond, count_fault}
use Rattle.template_faults.specs.Header.{template_members, schema_fault, text_fault, form_of, form_in}
use Rattle.template_faults.specs.Header.{language_fault, functions_fault, describing_fault, template_member}
use Rattle.template_faults.specs.Sights.{member_names, plain_names, row_names, loop_names, variable_names, sight_of}
use Rattle.template_meaning.specs.Describes as meaning
use Rattle.template_meaning.specs.Describes.{header_by}
use Rattle.template_meaning.specs.Parts as parts
use Rattle.template_meaning.specs.Parts.{parameter_of, parameter_by, output_of, output_by, argument_of, unlooped}
use Rattle.template_meaning.specs.Parts.{copies_in}
use Rattle.template_meaning.specs.Values.{inside, text_in, text_is, items_in, members_in}
use Rattle.template_members.specs.Arguments.{argument_fault, arguments_member, arguments_fault}
use Rattle.template_members.specs.Objects.{Rule, every, object_fault}
use Rattle.template_members.specs.Outputs.{output_fault, outputs_fault}
use Rattle.template_members.specs.Parameters.{parameter_fault, parameters_fault}
use Rattle.template_members.specs.Variables.{variables_fault}
use Rattle.template_members.specs.Loops.{row_loops_fault, loops_fault, loop_fault}
use Rattle.template_members.specs.declared.loops.Owner.TheVariants.{Variables}
use Rattle.template_parts.specs.declared.fault.TemplateFault.{TemplateFault}
use Rattle.template_parts.specs.declared.fault.TemplateFault.TheVariants.{WrongForm}
use Rattle.template_parts.specs.declared.mode.Form.{Form}
use Rattle.template_parts.specs.declared.mode.Form.TheVariants.{One, Two}
use Rattle.template_texts.specs.declared.sight.Place.{Place}
use Rattle.template_texts.specs.declared.sight.Sight.{Sight}
use Rattle.template_tree.specs.Tree.{Header}
use Rattle.template_parts.specs.declared.limit.Which.TheVariants as which
use Rattle.template_values.specs.Order.{first_of, to_item, decided}
use Rattle.template_values.specs.Values.{loop_name, names_with}
use Rattle.template_written.specs.Slots.{put_slot, put_slots, an_object, array_unless_empty, object_unless_empty}
use Rattle.template_written.specs.Slots.{NestsWithin, SlotsNest}
use Rattle.template_written.specs.Parts.{parameter_slots, written_parameter, output_slots, written_output}
use Rattle.template_written.specs.Parts.{argument_slots}
use Rattle.template_written.specs.Parts.{written_argument, written_variables}
use Rattle.template_written.specs.Written.{version_of, header_slots}
use Rattle.template_written.proofs.SlotLemmas.{first_put_here, slot_at, look_slot}
use Rattle.written_parts.proofs.FaultLemmas.{Holds, then_none, Accepts, Apart, Sound, At}
use Rattle.written_parts.proofs.FaultLemmas.{found_accepted, faulty_nothing, has_inside}
use Rattle.written_parts.proofs.ObjectLemmas.{SlotsPass, inside_within}
use Rattle.written_parts.proofs.ValueLemmas.{by_object, missing_none, Kept}
use Rattle.written_parts.proofs.PartLemmas.{parameter_kept, output_kept, relooped}
use Rattle.written_parts.proofs.GivenLemmas.{unless_kept, variables_kept, variables_written, argument_kept, copy_same}
use Rattle.written_parts.proofs.GivenLemmas.{same_loop, nothing_put, variable_loops_fine}
use Rattle.arm_value.specs.Kinds.{row_length}
use Rattle.written_resources.proofs.BodyLemmas.{look_inside}

-- ---- lists by name

mapped : (rule : Rule) (f : List ℕ → Json → Json)
    → ((k : List ℕ) (j : Json) → rule k j ≡ None → (rule k (f k j) ≡ None) × (nesting (f k j) ≤ nesting j))
    → (xs : List Member) → Accepts rule (pairs xs)
    → Accepts rule (pairs (map (λ m. (m.0, f m.0 m.1)) xs))
    × (members_nesting (map (λ m. (m.0, f m.0 m.1)) xs) ≤ members_nesting xs)
mapped rule f h [] a = (tt, omega arith)
mapped rule f h (m ∷ ms) a =
    let here = h m.0 m.1 a.0 in
    let rest = mapped rule f h ms a.1 in
    ((here.0, rest.0), omega (arith, here.1, rest.1))

mapped_keys : (f : List ℕ → Json → Json) (xs : List Member) → keys xs ≡ keys (map (λ m. (m.0, f m.0 m.1)) xs)
mapped_keys f [] = refl
mapped_keys f (m ∷ ms) = ap (λ r. m.0 ∷ r) (mapped_keys f ms)

-- a list of members, each written by itself, is kept
list_kept : (rule : Rule) (f : List ℕ → Json → Json)
    → ((k : List ℕ) (j : Json) → rule k j ≡ None → (rule k (f k j) ≡ None) × (nesting (f k j) ≤ nesting j))
    → (j : Json) → object_fault [] every rule j ≡ None
    → Holds (Kept (object_fault [] every rule) j)
    (object_unless_empty (map (λ m. (m.0, f m.0 m.1)) (members_in (Some j))))
list_kept rule f h j e =
    by_object [] every rule
    (λ i. Holds (Kept (object_fault [] every rule) i)
    (object_unless_empty (map (λ m. (m.0, f m.0 m.1)) (members_in (Some i)))))
    (λ ms s.
    let same = pairs-members ms in
    let r = mapped rule f h (members ms) (subst (Accepts rule) (sym same) s.accepted) in
    let ws = map (λ (m : Member). (m.0, f m.0 m.1)) (members ms) in
    let apart = subst (Apart every) (mapped_keys f (members ms))
    (subst (λ ps. Apart every (pair_keys ps)) (sym same) s.apart) in
    unless_kept (object_fault [] every rule) (object ms) ws
    (ap (λ o. decided None o) (faulty_nothing every rule (pairs ws) r.0 apart))
    (omega (arith, r.1, ap pairs_nesting same))) j e

fused : {A : Type 0} (r : Member → A) (w : A → Member) (xs : List Member)
    → map (λ m. w (r m)) xs ≡ map w (map r xs)
fused r w [] = refl
fused r w (m ∷ ms) = ap (λ l. w (r m) ∷ l) (fused r w ms)

parameters_kept : (here : Sight) (place : Place) (j : Json) → parameters_fault here place j ≡ None
    → Holds (Kept (parameters_fault here place) j)
    (object_unless_empty (map written_parameter (map parameter_of (members_in (Some j)))))
parameters_kept here place j e =
    subst (λ l. Holds (Kept (parameters_fault here place) j) (object_unless_empty l))
    (fused parameter_of written_parameter (members_in (Some j)))
    (list_kept (λ k p. parameter_fault here place p) (λ k p. an_object (parameter_slots (parameter_by k (Some p))))
    (λ k p h. parameter_kept here place k p h) j e)

outputs_kept : (here : Sight) (j : Json) → outputs_fault here j ≡ None
    → Holds (Kept (outputs_fault here) j) (object_unless_empty (map written_output (map output_of (members_in
    (Some j)))))
outputs_kept here j e =
    subst (λ l. Holds (Kept (outputs_fault here) j) (object_unless_empty l))
    (fused output_of written_output (members_in (Some j)))
    (list_kept (λ k o. output_fault here o) (λ k o. an_object (output_slots (output_by k (Some o))))
    (λ k o h. output_kept here k o h) j e)

-- ---- arguments

argument_by : (a : Bool) (o : Option TemplateFault) → (if a then Some (WrongForm []) else o) ≡ None
    → (a ≡ false) × (o ≡ None)
argument_by true o e = cc
argument_by false o e = (refl, e)

arguments_rule : (here : Sight) (k : List ℕ) (j : Json) → arguments_member here k j ≡ None
    → (arguments_member here k (an_object (argument_slots (argument_of (k, j)).content)) ≡ None)
    × (nesting (an_object (argument_slots (argument_of (k, j)).content)) ≤ nesting j)
arguments_rule here k j e =
    let p = argument_by (is_bracketed k || is_copy k) (argument_fault here j) e in
    let w = an_object (argument_slots (argument_of (k, j)).content) in
    let r = argument_kept here k j p.1 in
    (ap (λ b. if b then Some (WrongForm []) else argument_fault here w) p.0 ∙ r.0, r.1)

-- no argument is among loops
none_loops : (here : Sight) (xs : List Member) → Accepts (arguments_member here) (pairs xs) → unlooped xs ≡ xs
none_loops here [] a = refl
none_loops here (m ∷ ms) a =
    let p = argument_by (is_bracketed m.0 || is_copy m.0) (argument_fault here m.1) a.0 in
    ap (λ b. if b then unlooped ms else m ∷ unlooped ms)
    (copy_same m.0 ∙ or_right (is_bracketed m.0) (is_copy m.0) p.0)
    ∙ ap (λ r. m ∷ r) (none_loops here ms a.1)

all_arguments : (here : Sight) (j : Json) → arguments_fault here j ≡ None
    → unlooped (members_in (Some j)) ≡ members_in (Some j)
all_arguments here j e =
    by_object [] every (arguments_member here) (λ i. unlooped (members_in (Some i)) ≡ members_in (Some i))
    (λ ms s. none_loops here (members ms) (subst (Accepts (arguments_member here)) (sym (pairs-members ms)) s.accepted))
    j e

pub arguments_kept : (here : Sight) (j : Json) → arguments_fault here j ≡ None
    → Holds (Kept (arguments_fault here) j)
    (object_unless_empty (map written_argument (map argument_of (unlooped (members_in (Some j))))))
arguments_kept here j e =
    subst (λ l. Holds (Kept (arguments_fault here) j) (object_unless_empty (map written_argument (map argument_of l))))
    (sym (all_arguments here j e))
    (subst (λ l. Holds (Kept (arguments_fault here) j) (object_unless_empty l))
    (fused argument_of written_argument (members_in (Some j)))
    (list_kept (arguments_member here) (λ k a. an_object (argument_slots (argument_of (k, a)).content))
    (arguments_rule here) j e))

-- ---- parts that may be missing

kept_by : (fault : Json → Option TemplateFault) (n : ℕ) (j : Json) (w : Option Json) → Holds (Kept fault j) w
    → nesting j ≤ n → Holds (λ i. fault i ≡ None) w × NestsWithin n w
kept_by fault n j None h l = (tt, tt)
kept_by fault n j (Some w) h l = (h.0, omega (arith, h.1, l))

pub place_kept : (fault : Json → Option TemplateFault) (write : List Member → List Member) (n : ℕ) (o : Option Json)
    → write [] ≡ [] → ((j : Json) → fault j ≡ None
    → Holds (Kept fault j) (object_unless_empty (write (members_in (Some j)))))
    → Holds (λ j. fault j ≡ None) o → NestsWithin n o
    → Holds (λ i. fault i ≡ None) (object_unless_empty (write (members_in o)))
    × NestsWithin n (object_unless_empty (write (members_in o)))
place_kept fault write n None e h f w =
    subst (λ l. Holds (λ i. fault i ≡ None) (object_unless_empty l) × NestsWithin n (object_unless_empty l)) (sym e)
    (tt, tt)
place_kept fault write n (Some j) e h f w =
    kept_by fault n j (object_unless_empty (write (members_in (Some j)))) (h j f) w

-- ---- the form of a template

version_passes : (f : Form) → Holds (λ j. language_fault j ≡ None) (version_of f)
version_passes One = tt
version_passes Two =
    ap (λ t. if bytes_eq (codes "2.0") t then None else Some (WrongForm [])) (ascii.word (codes "2.0") refl)

version_within : (n : ℕ) (f : Form) → NestsWithin n (version_of f)
version_within n One = tt
version_within n Two = omega arith

version_form : (f : Form) → form_of (version_of f) ≡ f
version_form One = refl
version_form Two = ap (λ t. if bytes_eq (codes "2.0") t then Two else One) (ascii.word (codes "2.0") refl)

form_by : (o : Option Json) → (if text_is (codes "2.0") o then Two else One) ≡ form_of o
form_by None = refl
form_by (Some null) = refl
form_by (Some (bool b)) = refl
form_by (Some (int z)) = refl
form_by (Some (text t)) = ap (λ w. if bytes_eq w t then Two else One) (ascii.word (codes "2.0") refl)
form_by (Some (array js)) = refl
form_by (Some (object ms)) = refl

pub form_read : (ms : Pairs) → meaning.form_of (Some (object ms)) ≡ form_in ms
form_read ms =
    form_by (inside (codes "languageVersion") (Some (object ms)))
    ∙ ap form_of (sym (look_inside (codes "languageVersion") ms refl))

-- ---- what a rule says of the members of a template

schema_text : (o : Option Json) → is_some o ≡ true → Holds (λ j. schema_fault j ≡ None) o → o ≡ Some (text (text_in o))
schema_text None t h = cc
schema_text (Some null) t h = cc
schema_text (Some (bool b)) t h = cc
schema_text (Some (int z)) t h = cc
schema_text (Some (text s)) t h = refl
schema_text (Some (array js)) t h = cc
schema_text (Some (object ms)) t h = cc

pub template_at : (here : Sight) (place : Place) (name : List ℕ) → At (template_member here place) name
unfolding describing_fault
template_at here place name k j e =
    ap (λ f. if bytes_eq (fold (codes "parameters")) f then parameters_fault here place j
    else (if bytes_eq (fold (codes "variables")) f then variables_fault here place j
    else (if bytes_eq (fold (codes "outputs")) f then outputs_fault here j
    else (if bytes_eq (fold (codes "$schema")) f then schema_fault j
    else (if bytes_eq (fold (codes "contentVersion")) f then text_fault j
    else (if bytes_eq (fold (codes "languageVersion")) f then language_fault j
    else (if bytes_eq (fold (codes "functions")) f then functions_fault j
    else (if bytes_eq (fold (codes "metadata")) f || (bytes_eq (fold (codes "apiProfile")) f
    || bytes_eq (fold (codes "resources")) f) then None else Some (WrongForm []))))))))) e

-- what is known of the header of a template with these members, with resources that nest no deeper
pub record HeaderKept (here : Sight) (place : Place) (ms : Pairs) (r : Json) : Type 0 where
  pub passes : SlotsPass (template_member here place) (header_slots (header_by (Some (object ms))) r)
  pub within : SlotsNest (pairs_nesting ms) (header_slots (header_by (Some (object ms))) r)

pub header_kept : (here : Sight) (place : Place) (ms : Pairs) (r : Json)
    → Sound template_members every (template_member here place) ms → nesting r ≤ pairs_nesting ms
    → HeaderKept here place ms r
unfolding describing_fault
header_kept here place ms r s l =
    let rule = template_member here place in
    let v = Some (object ms) in
    let n = pairs_nesting ms in
    let h = header_by v in
    let there = missing_none template_members ms s.there in
    let schema = found_accepted rule (codes "$schema") refl (template_at here place (codes "$schema")) ms s.accepted in
    let ps = place_kept (parameters_fault here place) (λ xs. map written_parameter (map parameter_of xs)) n
    (inside (codes "parameters") v) refl (parameters_kept here place)
    (found_accepted rule (codes "parameters") refl (template_at here place (codes "parameters")) ms s.accepted)
    (inside_within (codes "parameters") ms) in
    let vs = place_kept (variables_fault here place) (λ xs. written_variables (parts.variables_of xs)) n
    (inside (codes "variables") v) (variables_written [] ∙ nothing_put) (variables_kept here place)
    (found_accepted rule (codes "variables") refl (template_at here place (codes "variables")) ms s.accepted)
    (inside_within (codes "variables") ms) in
    let os = place_kept (outputs_fault here) (λ xs. map written_output (map output_of xs)) n
    (inside (codes "outputs") v) refl (outputs_kept here)
    (found_accepted rule (codes "outputs") refl (template_at here place (codes "outputs")) ms s.accepted)
    (inside_within (codes "outputs") ms) in
    let is = schema_text (inside (codes "$schema") v) (sym (has_inside (codes "$schema") refl ms) ∙ there.0) schema in
    record {
      passes = (
        subst (Holds (λ j. schema_fault j ≡ None)) is schema,
        (refl, (version_passes h.form, (ps.0, (vs.0, (os.0, (refl, tt)))))),
      );
      within = (
        omega arith,
        (omega arith, (version_within n h.form, (ps.1, (vs.1, (os.1, (l, tt)))))),
      );
    }

-- ---- the names that expressions see

written_names : (ws : List Member) → member_names (object_unless_empty ws) ≡ keys ws
written_names [] = refl
written_names (w ∷ ws) = refl

read_names : (o : Option Json) → keys (members_in o) ≡ member_names o
read_names None = refl
read_names (Some null) = refl
read_names (Some (bool b)) = refl
read_names (Some (int z)) = refl
read_names (Some (text t)) = refl
read_names (Some (array js)) = refl
read_names (Some (object ms)) = ap pair_keys (pairs-members ms)

parameter_keys : (xs : List Member) → keys (map written_parameter (map parameter_of xs)) ≡ keys xs
parameter_keys [] = refl
parameter_keys (m ∷ ms) = ap (λ r. m.0 ∷ r) (parameter_keys ms)

parameter_names : (o : Option Json)
    → member_names (object_unless_empty (map written_parameter (map parameter_of (members_in o)))) ≡ member_names o
parameter_names o =
    written_names (map written_parameter (map parameter_of (members_in o))) ∙ parameter_keys (members_in o)
    ∙ read_names o

-- ---- members that make loops

first_copy : (xs : List Member) → copies_in xs ≡ first_by is_copy (pairs xs)
first_copy [] = refl
first_copy (m ∷ ms) = ap₂ (λ b o. if b then Some m.1 else o) (copy_same m.0) (first_copy ms)

no_loops : (xs : List Member) → first_by is_copy (pairs (unlooped xs)) ≡ None
no_loops [] = refl
no_loops (m ∷ ms) = by_test (parts.is_copy m.0) (sym (copy_same m.0)) (no_loops ms)
  where
    by_test : (b : Bool) → is_copy m.0 ≡ b → first_by is_copy (pairs (unlooped ms)) ≡ None
        → first_by is_copy (pairs (if b then unlooped ms else m ∷ unlooped ms)) ≡ None
    by_test true e h = h
    by_test false e h = ap (λ b. if b then Some m.1 else first_by is_copy (pairs (unlooped ms))) e ∙ h

copy_word : is_copy (chars (codes "copy")) ≡ true
copy_word = ap is_copy (ascii.word (codes "copy") refl)

written_loops : (o : Option Json) (xs : List Member)
    → first_by is_copy (pairs (put_slot (codes "copy") o (unlooped xs))) ≡ o
unfolding put_slot
written_loops None xs = no_loops xs
written_loops (Some j) xs = first_put_here is_copy (chars (codes "copy")) j (unlooped xs) copy_word (no_loops xs)

-- a fold over the members that make no loops
record Plainly {A : Type 0} (go : A → Pairs → A) (more : A → List ℕ → A) : Type 0 where
  none : (a : A) → go a no_pairs ≡ a
  some : (a : A) (k : List ℕ) (j : Json) (ms : Pairs)
      → go a (pair k j ms) ≡ (if is_copy k then go a ms else go (more a k) ms)

names_plainly : Plainly plain_names (λ names k. names ++ k ∷ [])
names_plainly = record { none = λ a. refl; some = λ a k j ms. refl }

count_plainly : Plainly plain_count (λ n k. total n 1)
count_plainly = record { none = λ a. refl; some = λ a k j ms. refl }

plainly_put_by : {A : Type 0} (go : A → Pairs → A) (more : A → List ℕ → A) (p : Plainly go more) (a : A) (k : List ℕ)
    (j : Json) (m : Member) (ms : List Member) (o : Ordering) → key_cmp k m.0 ≡ o → is_copy k ≡ true
    → ((b : A) → go b (pairs (put k j ms)) ≡ go b (pairs ms))
    → go a (pairs (match_ordering o ((k, j) ∷ m ∷ ms) ((k, j) ∷ ms) (m ∷ put k j ms))) ≡ go a (pairs (m ∷ ms))
plainly_put_by go more p a k j m ms Less e c h =
    p.some a k j (pairs (m ∷ ms)) ∙ ap (λ b. if b then go a (pairs (m ∷ ms)) else go (more a k) (pairs (m ∷ ms))) c
plainly_put_by go more p a k j m ms Equal e c h =
    p.some a k j (pairs ms) ∙ ap (λ b. if b then go a (pairs ms) else go (more a k) (pairs ms)) c
    ∙ sym (p.some a m.0 m.1 (pairs ms) ∙ ap (λ b. if b then go a (pairs ms) else go (more a m.0) (pairs ms))
    (ap is_copy (sym (equal_keys k m.0 e)) ∙ c))
plainly_put_by go more p a k j m ms Greater e c h =
    p.some a m.0 m.1 (pairs (put k j ms))
    ∙ ap₂ (λ x y. if is_copy m.0 then x else y) (h a) (h (more a m.0)) ∙ sym (p.some a m.0 m.1 (pairs ms))

plainly_put : {A : Type 0} (go : A → Pairs → A) (more : A → List ℕ → A) (p : Plainly go more) (a : A) (k : List ℕ)
    (j : Json) (ms : List Member) → is_copy k ≡ true → go a (pairs (put k j ms)) ≡ go a (pairs ms)
plainly_put go more p a k j [] c = p.some a k j no_pairs
    ∙ ap (λ b. if b then go a no_pairs else go (more a k) no_pairs) c
plainly_put go more p a k j (m ∷ ms) c =
    plainly_put_by go more p a k j m ms (key_cmp k m.0) refl c (λ b. plainly_put go more p b k j ms c)

plainly_unlooped : {A : Type 0} (go : A → Pairs → A) (more : A → List ℕ → A) (p : Plainly go more) (a : A)
    (xs : List Member) → go a (pairs (unlooped xs)) ≡ go a (pairs xs)
plainly_unlooped go more p a [] = refl
plainly_unlooped {A = A} go more p a (m ∷ ms) =
    by_test (parts.is_copy m.0) (sym (copy_same m.0)) (λ b. plainly_unlooped go more p b ms)
    ∙ sym (p.some a m.0 m.1 (pairs ms))
  where
    by_test : (b : Bool) → is_copy m.0 ≡ b → ((c : A) → go c (pairs (unlooped ms)) ≡ go c (pairs ms))
        → go a (pairs (if b then unlooped ms else m ∷ unlooped ms))
        ≡ (if is_copy m.0 then go a (pairs ms) else go (more a m.0) (pairs ms))
    by_test true e h =
        h a
        ∙ sym (ap (λ b. if b then go a (pairs ms) else go (more a m.0) (pairs ms)) e)
    by_test false e h =
        p.some a m.0 m.1 (pairs (unlooped ms))
        ∙ ap₂ (λ x y. if is_copy m.0 then x else y) (h a) (h (more a m.0))

plainly_written : {A : Type 0} (go : A → Pairs → A) (more : A → List ℕ → A) (p : Plainly go more) (a : A)
    (o : Option Json) (xs : List Member) → go a (pairs (put_slot (codes "copy") o (unlooped xs))) ≡ go a (pairs xs)
unfolding put_slot
plainly_written go more p a None xs = plainly_unlooped go more p a xs
plainly_written go more p a (Some j) xs =
    plainly_put go more p a (chars (codes "copy")) j (unlooped xs) copy_word ∙ plainly_unlooped go more p a xs

-- ---- the names and the number of variables

loops_named : (here : Sight) (place : Place) (old names : List (List ℕ)) (i : ℕ) (js : Row)
    → row_loops_fault here place Variables old i js ≡ None
    → row_names names (row (map relooped (items js))) ≡ row_names names js
loops_named here place old names i no_items e = refl
loops_named here place old names i (item j js) e =
    let p = then_none (to_item i) (loop_fault here place Variables old j)
    (row_loops_fault here place Variables (names_with old (loop_name j)) (i + 1) js) e in
    ap (λ o. row_names (names_with names o) (row (map relooped (items js)))) (same_loop here place Variables old j p.0)
    ∙ loops_named here place (names_with old (loop_name j)) (names_with names (loop_name j)) (i + 1) js p.1

names_of_loops : (here : Sight) (place : Place) (old names : List (List ℕ)) (o : Option Json)
    → Holds (λ j. loops_fault here place Variables old j ≡ None) o
    → loop_names names (array_unless_empty (map relooped (items_in o))) ≡ loop_names names o
names_of_loops here place old names None h = refl
names_of_loops here place old names (Some null) h = refl
names_of_loops here place old names (Some (bool b)) h = refl
names_of_loops here place old names (Some (int z)) h = refl
names_of_loops here place old names (Some (text t)) h = refl
names_of_loops here place old names (Some (array no_items)) h = refl
names_of_loops here place old names (Some (array (item j js))) h = loops_named here place old names 0 (item j js) h
names_of_loops here place old names (Some (object ms)) h = refl

written_variable_names : (ws : List Member)
    → variable_names (object_unless_empty ws) ≡ loop_names (plain_names [] (pairs ws)) (first_by is_copy (pairs ws))
written_variable_names [] = refl
written_variable_names (w ∷ ws) = refl

variable_names_kept : (here : Sight) (place : Place) (ms : Pairs) → variables_fault here place (object ms) ≡ None
    → variable_names (object_unless_empty (written_variables (parts.variables_of (members ms))))
    ≡ variable_names (Some (object ms))
variable_names_kept here place ms e =
    let xs = members ms in
    let same = pairs-members ms in
    let o = array_unless_empty (map relooped (items_in (copies_in xs))) in
    let f = subst (λ ps. variables_fault here place (object ps) ≡ None) (sym same) e in
    ap (λ l. variable_names (object_unless_empty l)) (variables_written xs)
    ∙ written_variable_names (put_slot (codes "copy") o (unlooped xs))
    ∙ ap₂ loop_names (plainly_written plain_names (λ names k. names ++ k ∷ []) names_plainly [] o xs)
    (written_loops o xs)
    ∙ names_of_loops here place (keys xs) (plain_names [] (pairs xs)) (copies_in xs)
    (variable_loops_fine here place xs f)
    ∙ ap₂ (λ ps c. loop_names (plain_names [] ps) c) same (first_copy xs ∙ ap (first_by is_copy) same)

names_of_variables : (here : Sight) (place : Place) (o : Option Json)
    → Holds (λ j. variables_fault here place j ≡ None) o
    → variable_names (object_unless_empty (written_variables (parts.variables_of (members_in o)))) ≡ variable_names o
names_of_variables here place None h =
    ap (λ l. variable_names (object_unless_empty l)) (variables_written [] ∙ nothing_put)
names_of_variables here place (Some null) h = cc
names_of_variables here place (Some (bool b)) h = cc
names_of_variables here place (Some (int z)) h = cc
names_of_variables here place (Some (text t)) h = cc
names_of_variables here place (Some (array js)) h = cc
names_of_variables here place (Some (object ms)) h = variable_names_kept here place ms h

mapped_length : (js : List Json) → row_length (row (map relooped js)) ≡ row_length (row js)
mapped_length [] = refl
mapped_length (j ∷ js) = ap suc (mapped_length js)

number_of_loops : (o : Option Json) → loop_count (array_unless_empty (map relooped (items_in o))) ≡ loop_count o
number_of_loops None = refl
number_of_loops (Some null) = refl
number_of_loops (Some (bool b)) = refl
number_of_loops (Some (int z)) = refl
number_of_loops (Some (text t)) = refl
number_of_loops (Some (array no_items)) = refl
number_of_loops (Some (array (item j js))) =
    ap suc (mapped_length (items js) ∙ ap row_length (row-items js))
number_of_loops (Some (object ms)) = refl

written_variable_count : (ws : List Member)
    → variable_count (object_unless_empty ws)
    ≡ total (plain_count 0 (pairs ws)) (loop_count (first_by is_copy (pairs ws)))
written_variable_count [] = refl
written_variable_count (w ∷ ws) = refl

number_of_members : (ms : Pairs)
    → variable_count (object_unless_empty (written_variables (parts.variables_of (members ms))))
    ≡ variable_count (Some (object ms))
number_of_members ms =
    let xs = members ms in
    let same = pairs-members ms in
    let o = array_unless_empty (map relooped (items_in (copies_in xs))) in
    ap (λ l. variable_count (object_unless_empty l)) (variables_written xs)
    ∙ written_variable_count (put_slot (codes "copy") o (unlooped xs))
    ∙ ap₂ (λ a c. total a (loop_count c)) (plainly_written plain_count (λ n k. total n 1) count_plainly 0 o xs)
    (written_loops o xs)
    ∙ ap (total (plain_count 0 (pairs xs))) (number_of_loops (copies_in xs))
    ∙ ap₂ (λ ps c. total (plain_count 0 ps) (loop_count c)) same (first_copy xs ∙ ap (first_by is_copy) same)

number_of_variables : (here : Sight) (place : Place) (o : Option Json)
    → Holds (λ j. variables_fault here place j ≡ None) o
    → variable_count (object_unless_empty (written_variables (parts.variables_of (members_in o)))) ≡ variable_count o
number_of_variables here place None h =
    ap (λ l. variable_count (object_unless_empty l)) (variables_written [] ∙ nothing_put)
number_of_variables here place (Some null) h = cc
number_of_variables here place (Some (bool b)) h = cc
number_of_variables here place (Some (int z)) h = cc
number_of_variables here place (Some (text t)) h = cc
number_of_variables here place (Some (array js)) h = cc
number_of_variables here place (Some (object ms)) h = number_of_members ms

-- ---- the number of parameters and of outputs

written_length : (ws : List Member) → member_count (object_unless_empty ws) ≡ pairs_length (pairs ws)
written_length [] = refl
written_length (w ∷ ws) = refl

read_length : (o : Option Json) → pairs_length (pairs (members_in o)) ≡ member_count o
read_length None = refl
read_length (Some null) = refl
read_length (Some (bool b)) = refl
read_length (Some (int z)) = refl
read_length (Some (text t)) = refl
read_length (Some (array js)) = refl
read_length (Some (object ms)) = ap pairs_length (pairs-members ms)

length_of : {A : Type 0} (r : Member → A) (w : A → Member) (xs : List Member)
    → pairs_length (pairs (map w (map r xs))) ≡ pairs_length (pairs xs)
length_of r w [] = refl
length_of r w (m ∷ ms) = ap suc (length_of r w ms)

number_of : {A : Type 0} (r : Member → A) (w : A → Member) (o : Option Json)
    → member_count (object_unless_empty (map w (map r (members_in o)))) ≡ member_count o
number_of r w o = written_length (map w (map r (members_in o))) ∙ length_of r w (members_in o) ∙ read_length o

-- ---- what is seen and counted of a template that is written

in_header : (h : Header) (r : Json) (name : List ℕ) → list_all (λ b. nat_lt b 128) name ≡ true
    → look_in name (pairs (put_slots (header_slots h r) [])) ≡ slot_at name (header_slots h r)
in_header h r name w =
    look_inside name (pairs (put_slots (header_slots h r) [])) w ∙ look_slot name (header_slots h r) [] w refl refl

-- the expressions of the template see the same names
pub sight_kept : (here : Sight) (place : Place) (ms : Pairs) (r : Json)
    → Sound template_members every (template_member here place) ms
    → sight_of (an_object (header_slots (header_by (Some (object ms))) r)) ≡ sight_of (object ms)
unfolding describing_fault
sight_kept here place ms r s =
    let v = Some (object ms) in
    let h = header_by v in
    let variables = found_accepted (template_member here place) (codes "variables") refl
    (template_at here place (codes "variables")) ms s.accepted in
    let ps = ap member_names (in_header h r (codes "parameters") refl) ∙ parameter_names (inside (codes "parameters") v)
    ∙ ap member_names (sym (look_inside (codes "parameters") ms refl)) in
    let vs = ap variable_names (in_header h r (codes "variables") refl)
    ∙ names_of_variables here place (inside (codes "variables") v) variables
    ∙ ap variable_names (sym (look_inside (codes "variables") ms refl)) in
    λ x. record { parameters = ps x; variables = vs x }

pub form_written : (h : Header) (r : Json) → form_in (pairs (put_slots (header_slots h r) [])) ≡ h.form
form_written h r = ap form_of (in_header h r (codes "languageVersion") refl) ∙ version_form h.form

counts_by : ℕ → ℕ → ℕ → ℕ → Option TemplateFault
counts_by os ps rs vs =
    first_of (beyond which.Outputs 64 os)
    (first_of (beyond which.Parameters 256 ps)
    (first_of (beyond which.Resources 800 rs) (beyond which.Variables 512 vs)))

-- no number is beyond its limit where none was, if there are as many resources
pub counts_kept : (here : Sight) (place : Place) (ms : Pairs) (r : Json)
    → Sound template_members every (template_member here place) ms
    → resource_count (pairs (put_slots (header_slots (header_by (Some (object ms))) r) [])) ≡ resource_count ms
    → count_fault ms ≡ None
    → count_fault (pairs (put_slots (header_slots (header_by (Some (object ms))) r) [])) ≡ None
unfolding describing_fault counts_by
counts_kept here place ms r s c e =
    let v = Some (object ms) in
    let h = header_by v in
    let ws = pairs (put_slots (header_slots h r) []) in
    let variables = found_accepted (template_member here place) (codes "variables") refl
    (template_at here place (codes "variables")) ms s.accepted in
    let os = ap member_count (in_header h r (codes "outputs") refl)
    ∙ number_of output_of written_output (inside (codes "outputs") v)
    ∙ ap member_count (sym (look_inside (codes "outputs") ms refl)) in
    let ps = ap member_count (in_header h r (codes "parameters") refl)
    ∙ number_of parameter_of written_parameter (inside (codes "parameters") v)
    ∙ ap member_count (sym (look_inside (codes "parameters") ms refl)) in
    let vs = ap variable_count (in_header h r (codes "variables") refl)
    ∙ number_of_variables here place (inside (codes "variables") v) variables
    ∙ ap variable_count (sym (look_inside (codes "variables") ms refl)) in
    ap₂ (λ a b. counts_by a b (resource_count ws) (variable_count (look_in (codes "variables") ws))) os ps
    ∙ ap₂ (λ a b. counts_by (member_count (look_in (codes "outputs") ms)) (member_count (look_in
    (codes "parameters") ms))
    a b) c vs
    ∙ e
