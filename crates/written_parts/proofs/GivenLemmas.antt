-- The variables of a template that has no fault, and what its nested deployments give for parameters, once they are
-- written.
use Rattle.std.proofs.Common.{◌≡◌, ◌≤◌, ◌||◌, ◌+◌, ◌++◌, ℕ, suc, chars, codes, bytes_eq, Bool, true, false}
use Rattle.std.proofs.Common.{List, [], ◌∷◌, map, Option, Some, None, is_some, refl, sym, ap, ap₂, ◌∙◌, subst, arith}
use Rattle.std.proofs.Common.{if◌then◌else◌, Ordering, Less, Equal, Greater}
use Rattle.std.specs.List.{list_any}
use Rattle.std.specs.Ordering.{match_ordering}
use Rattle.foundation.proofs.Words.{swapped, eq_word, itself}
use Rattle.arm_expr.specs.Brackets.{is_bracketed, is_copy}
use Rattle.arm_value.specs.Json.{Json, null, bool, int, text, array, object, Row, no_items, item, row, items, Member}
use Rattle.arm_value.specs.Json.{no_pairs, pair, pairs, members, keys, put, key_cmp, nesting}
use Rattle.arm_value.specs.Json.{row_nesting, pairs_nesting, members_nesting}
use Rattle.arm_value.specs.Look.{fold, is_same_folded, first_by}
use Rattle.arm_value.specs.View.{json}
use Rattle.arm_value.proofs.TreeLemmas.{pairs-members, put_nests}
use Rattle.foundation.proofs.AsciiWords as ascii
use Rattle.foundation.proofs.TruthValues.{or_left, or_right, nor, unless}
use Rattle.name_set.specs.Names.{is_named}
use Rattle.template_meaning.specs.Values.{inside, text_in, value_in, items_in, members_in}
use Rattle.template_meaning.specs.Parts as meaning
use Rattle.template_meaning.specs.Parts.{content_by, unlooped, copies_in, first_in, variable_of, looped_variable}
use Rattle.template_meaning.specs.Parts.{argument_of}
use Rattle.template_meaning.proofs.ValueLemmas.{tree_back}
use Rattle.template_members.specs.Arguments.{has_item, pairs_loop, argument_members, argument_member, argument_in}
use Rattle.template_members.specs.Arguments.{argument_fault}
use Rattle.template_members.specs.Loops.{may_give, new_name_fault, row_loops_fault, loops_fault, loop_fault}
use Rattle.template_members.specs.Objects.{every, members_fault}
use Rattle.template_members.specs.Variables.{variable_member, variables_fault}
use Rattle.template_members.specs.declared.loops.Owner.{Owner}
use Rattle.template_members.specs.declared.loops.Owner.TheVariants.{Variables, Argument}
use Rattle.template_parts.specs.declared.content.Content.{Content}
use Rattle.template_parts.specs.declared.content.Content.TheVariants as content
use Rattle.template_parts.specs.declared.fault.TemplateFault.{TemplateFault}
use Rattle.template_parts.specs.declared.fault.TemplateFault.TheVariants.{WrongForm}
use Rattle.template_texts.specs.declared.sight.Place.{Place}
use Rattle.template_texts.specs.declared.sight.Place.TheVariants.{Elsewhere}
use Rattle.template_texts.specs.declared.sight.Sight.{Sight}
use Rattle.template_values.specs.Order.{to_item, then_faults, then_members, decided}
use Rattle.template_values.specs.Values.{value_fault, loop_name, names_with}
use Rattle.template_written.specs.Slots.{Slot, put_slot, an_object, array_unless_empty, object_unless_empty}
use Rattle.template_written.specs.Slots.{NestsWithin}
use Rattle.template_written.specs.Parts.{loop_slots, named_loop, plain_variables, variable_loops, written_variables}
use Rattle.template_written.specs.Parts.{value_slot}
use Rattle.template_written.specs.Parts.{argument_loop, argument_slots, value_loop}
use Rattle.template_written.proofs.SlotLemmas.{look_slot}
use Rattle.written_parts.proofs.FaultLemmas.{Holds, then_none, then_nothing, Accepts, Differ, Apart}
use Rattle.written_parts.proofs.FaultLemmas.{At, sound_members, found_accepted, any_back, turned_folded}
use Rattle.written_parts.proofs.FaultLemmas.{faulty_nothing}
use Rattle.written_parts.proofs.ObjectLemmas.{object_within, inside_within, accepts_put, apart_put}
use Rattle.written_parts.proofs.ValueLemmas.{kept_value, within_value, Kept}
use Rattle.written_parts.proofs.PartLemmas.{ContentFine, loop_passes, relooped, loop_read}
use Rattle.template_written.proofs.KeptLemmas.{plain_none}

-- ---- members that make loops

-- both ways to say which member makes loops are the same
pub copy_same : (k : List ℕ) → meaning.is_copy k ≡ is_copy k
copy_same k = ap (λ w. bytes_eq w k) (ascii.word (codes "copy") refl) ∙ swapped (codes "copy") k

is_the_copy : (k : List ℕ) → is_copy k ≡ true → k ≡ codes "copy"
is_the_copy k e = eq_word k (codes "copy") e

-- a name that is another word in letters of any case makes no loops
no_copy : (w k : List ℕ) → is_same_folded (codes "copy") w ≡ false → fold k ≡ fold w → is_copy k ≡ false
no_copy w k d e = unless (is_copy k) (λ c.
    let f : fold (codes "copy") ≡ fold w = ap fold (sym (is_the_copy k c)) ∙ e in
    let t : is_same_folded (codes "copy") w ≡ true =
    ap (λ x. bytes_eq x (fold w)) f ∙ itself (fold w) in
    let b : true ≡ false = sym t ∙ d in cc)

-- ---- lists of loops

-- names among which there is no further
abbrev Within : List (List ℕ) → List (List ℕ) → Type 0
Within new old = (t : List ℕ) → is_named old t ≡ false → is_named new t ≡ false

abbrev same_in : List ℕ → Option (List ℕ) → Bool
same_in u None = false
same_in u (Some x) = is_same_folded u x

back : (q : List ℕ → Bool) (xs : List (List ℕ)) (k : List ℕ) → list_any q (xs ++ k ∷ []) ≡ false
    → (list_any q xs ≡ false) × (q k ≡ false)
back q [] k g = (refl, or_left (q k) false g)
back q (x ∷ xs) k g =
    let r = back q xs k (or_right (q x) (list_any q (xs ++ k ∷ [])) g) in
    (nor (q x) (list_any q xs) (or_left (q x) (list_any q (xs ++ k ∷ [])) g) r.0, r.1)

with_more : (new old : List (List ℕ)) (o p : Option (List ℕ)) → o ≡ p → Within new old
    → Within (names_with new o) (names_with old p)
with_more new old None None e w t h = w t h
with_more new old None (Some b) e w t h = cc
with_more new old (Some a) None e w t h = cc
with_more new old (Some a) (Some b) e w t h =
    let p = back (is_same_folded t) old b h in
    any_back (is_same_folded t) new a (w t p.0) (ap (λ (x : Option (List ℕ)). same_in t x) e ∙ p.1)

new_within : (owner : Owner) (new old : List (List ℕ)) (t : List ℕ) → Within new old
    → new_name_fault owner old (text t) ≡ None → new_name_fault owner new (text t) ≡ None
new_within owner new old t w e = by_tests (is_bracketed t) (is_named old t) (is_named new t) (w t) e
  where
    by_tests : (a b c : Bool) → (b ≡ false → c ≡ false)
        → (if a || b then Some (WrongForm []) else (if may_give owner t then None else Some (WrongForm []))) ≡ None
        → (if a || c then Some (WrongForm []) else (if may_give owner t then None else Some (WrongForm []))) ≡ None
    by_tests true b c h g = cc
    by_tests false true c h g = cc
    by_tests false false true h g = let d : true ≡ false = h refl in cc
    by_tests false false false h g = g

name_back : (t : List ℕ) (count input : Json) → text_in (inside (codes "name") (Some (named_loop t count input))) ≡ t
name_back t count input =
    let ss : List Slot = (codes "name", Some (text t)) ∷ loop_slots count input in
    ap text_in (look_slot (codes "name") ss [] refl refl refl)

-- a loop that is written gives the same name
pub same_loop : (here : Sight) (place : Place) (owner : Owner) (names : List (List ℕ)) (j : Json)
    → loop_fault here place owner names j ≡ None → loop_name (relooped j) ≡ loop_name j
same_loop here place owner names j e =
    let l = loop_read here place owner names j e in
    let t = text_in (inside (codes "name") (Some j)) in
    let count = json (value_in (inside (codes "count") (Some j))) in
    let input = json (value_in (inside (codes "input") (Some j))) in
    let again = loop_read here place owner names (relooped j)
    (loop_passes here place owner names t count input l.new l.count l.input) in
    again.named ∙ ap Some (name_back t count input) ∙ sym l.named

-- loops that are not refused are written so that they are not, and nest no deeper
loops_kept : (here : Sight) (place : Place) (owner : Owner) (old new : List (List ℕ)) (i : ℕ) (js : Row)
    → Within new old → row_loops_fault here place owner old i js ≡ None
    → (row_loops_fault here place owner new i (row (map relooped (items js))) ≡ None)
    × (row_nesting (row (map relooped (items js))) ≤ row_nesting js)
loops_kept here place owner old new i no_items w e = (refl, omega arith)
loops_kept here place owner old new i (item j js) w e =
    let rest = row_loops_fault here place owner (names_with old (loop_name j)) (i + 1) js in
    let p = then_none (to_item i) (loop_fault here place owner old j) rest e in
    let l = loop_read here place owner old j p.0 in
    let t = text_in (inside (codes "name") (Some j)) in
    let count = json (value_in (inside (codes "count") (Some j))) in
    let input = json (value_in (inside (codes "input") (Some j))) in
    let passes = loop_passes here place owner new t count input (new_within owner new old t w l.new) l.count l.input in
    let same = same_loop here place owner old j p.0 in
    let r = loops_kept here place owner (names_with old (loop_name j)) (names_with new (loop_name (relooped j))) (i + 1)
    js (with_more new old (loop_name (relooped j)) (loop_name j) same w) p.1 in (
      then_nothing (to_item i) (loop_fault here place owner new (relooped j))
          (row_loops_fault here place owner (names_with new (loop_name (relooped j))) (i + 1)
          (row (map relooped (items js)))) passes r.0,
      omega (arith, l.within t, r.1),
    )

-- ---- variables

plain_back : (ms : List Member) (js : List Json)
    → plain_variables (map variable_of ms ++ map looped_variable js) ≡ ms
plain_back [] js = plain_none js
plain_back (m ∷ ms) js = ap₂ (λ j r. (m.0, j) ∷ r) (tree_back m.1) (plain_back ms js)

loops_only : (js : List Json) → variable_loops (map looped_variable js) ≡ map relooped js
loops_only [] = refl
loops_only (j ∷ js) = ap (λ r. relooped j ∷ r) (loops_only js)

loops_back : (ms : List Member) (js : List Json)
    → variable_loops (map variable_of ms ++ map looped_variable js) ≡ map relooped js
loops_back [] js = loops_only js
loops_back (m ∷ ms) js = loops_back ms js

-- how the variables of these members are written
pub variables_written : (ms : List Member)
    → written_variables (meaning.variables_of ms)
    ≡ put_slot (codes "copy") (array_unless_empty (map relooped (items_in (copies_in ms)))) (unlooped ms)
variables_written ms =
    let js = items_in (copies_in ms) in
    ap₂ (λ ls r. put_slot (codes "copy") (array_unless_empty ls) r) (loops_back (unlooped ms) js)
    (plain_back (unlooped ms) js)

pub nothing_put : put_slot (codes "copy") None [] ≡ []
unfolding put_slot
nothing_put = refl

-- ---- members without loops

named_by : (t : List ℕ) (m : Member) (ms : List Member) (b : Bool) → is_named (keys (m ∷ ms)) t ≡ false
    → is_named (keys (unlooped ms)) t ≡ false → is_named (keys (if b then unlooped ms else m ∷ unlooped ms)) t ≡ false
named_by t m ms true e h = h
named_by t m ms false e h =
    nor (is_same_folded t m.0) (is_named (keys (unlooped ms)) t)
    (or_left (is_same_folded t m.0) (is_named (keys ms) t) e) h

named_unlooped : (t : List ℕ) (ms : List Member) → is_named (keys ms) t ≡ false
    → is_named (keys (unlooped ms)) t ≡ false
named_unlooped t [] e = e
named_unlooped t (m ∷ ms) e =
    named_by t m ms (meaning.is_copy m.0) e
    (named_unlooped t ms (or_right (is_same_folded t m.0) (is_named (keys ms) t) e))

differ_by : (n : List ℕ) (m : Member) (ms : List Member) (b : Bool) → Differ every n (keys (m ∷ ms))
    → Differ every n (keys (unlooped ms)) → Differ every n (keys (if b then unlooped ms else m ∷ unlooped ms))
differ_by n m ms true d h = h
differ_by n m ms false d h = (d.0, h)

differ_unlooped : (n : List ℕ) (ms : List Member) → Differ every n (keys ms) → Differ every n (keys (unlooped ms))
differ_unlooped n [] d = d
differ_unlooped n (m ∷ ms) d = differ_by n m ms (meaning.is_copy m.0) d (differ_unlooped n ms d.1)

apart_by : (m : Member) (ms : List Member) (b : Bool) → Apart every (keys (m ∷ ms)) → Apart every (keys (unlooped ms))
    → Apart every (keys (if b then unlooped ms else m ∷ unlooped ms))
apart_by m ms true a h = h
apart_by m ms false a h = (differ_unlooped m.0 ms a.0, h)

apart_unlooped : (ms : List Member) → Apart every (keys ms) → Apart every (keys (unlooped ms))
apart_unlooped [] a = a
apart_unlooped (m ∷ ms) a = apart_by m ms (meaning.is_copy m.0) a (apart_unlooped ms a.1)

nests_by : (m : Member) (ms : List Member) (b : Bool) → members_nesting (unlooped ms) ≤ members_nesting ms
    → members_nesting (if b then unlooped ms else m ∷ unlooped ms) ≤ members_nesting (m ∷ ms)
nests_by m ms true h = omega (arith, h)
nests_by m ms false h = omega (arith, h)

pub nests_unlooped : (ms : List Member) → members_nesting (unlooped ms) ≤ members_nesting ms
nests_unlooped [] = omega arith
nests_unlooped (m ∷ ms) = nests_by m ms (meaning.is_copy m.0) (nests_unlooped ms)

within_copies : (ms : List Member) → NestsWithin (members_nesting ms) (copies_in ms)
within_copies [] = tt
within_copies (m ∷ ms) = by_test (meaning.is_copy m.0) (copies_in ms) (within_copies ms)
  where
    by_test : (b : Bool) (o : Option Json) → NestsWithin (members_nesting ms) o
        → NestsWithin (members_nesting (m ∷ ms)) (if b then Some m.1 else o)
    by_test true o h = omega arith
    by_test false None h = tt
    by_test false (Some j) h = omega (arith, h)

-- ---- what is known of members that make loops

copies_accepted : (fault : Json → Option TemplateFault) (other : List ℕ → Json → Option TemplateFault)
    (xs : List Member) → Accepts (λ k j. if is_copy k then fault j else other k j) (pairs xs)
    → Holds (λ j. fault j ≡ None) (copies_in xs)
copies_accepted fault other [] a = tt
copies_accepted fault other (m ∷ ms) a =
    by_test (meaning.is_copy m.0) (sym (copy_same m.0)) (copies_accepted fault other ms a.1)
  where
    by_test : (b : Bool) → is_copy m.0 ≡ b → Holds (λ j. fault j ≡ None) (copies_in ms)
        → Holds (λ j. fault j ≡ None) (if b then Some m.1 else copies_in ms)
    by_test true e r = sym (ap (λ b. if b then fault m.1 else other m.0 m.1) e) ∙ a.0
    by_test false e r = r

others_accepted : (fault new : Json → Option TemplateFault) (other : List ℕ → Json → Option TemplateFault)
    (xs : List Member) → Accepts (λ k j. if is_copy k then fault j else other k j) (pairs xs)
    → Accepts (λ k j. if is_copy k then new j else other k j) (pairs (unlooped xs))
others_accepted fault new other [] a = tt
others_accepted fault new other (m ∷ ms) a =
    by_test (meaning.is_copy m.0) (sym (copy_same m.0)) (others_accepted fault new other ms a.1)
  where
    by_test : (b : Bool) → is_copy m.0 ≡ b
        → Accepts (λ k j. if is_copy k then new j else other k j) (pairs (unlooped ms))
        → Accepts (λ k j. if is_copy k then new j else other k j) (pairs (if b then unlooped ms else m ∷ unlooped ms))
    by_test true e r = r
    by_test false e r = (
      ap (λ b. if b then new m.1 else other m.0 m.1) e
          ∙ sym (ap (λ b. if b then fault m.1 else other m.0 m.1) e) ∙ a.0,
      r,
    )

named_put_by : (t k : List ℕ) (j : Json) (m : Member) (ms : List Member) (o : Ordering) → is_same_folded t k ≡ false
    → is_named (keys (m ∷ ms)) t ≡ false → is_named (keys (put k j ms)) t ≡ false
    → is_named (keys (match_ordering o ((k, j) ∷ m ∷ ms) ((k, j) ∷ ms) (m ∷ put k j ms))) t ≡ false
named_put_by t k j m ms Less e n h = nor (is_same_folded t k) (is_named (keys (m ∷ ms)) t) e n
named_put_by t k j m ms Equal e n h =
    nor (is_same_folded t k) (is_named (keys ms) t) e (or_right (is_same_folded t m.0) (is_named (keys ms) t) n)
named_put_by t k j m ms Greater e n h =
    nor (is_same_folded t m.0) (is_named (keys (put k j ms)) t)
    (or_left (is_same_folded t m.0) (is_named (keys ms) t) n) h

named_put : (t k : List ℕ) (j : Json) (ms : List Member) → is_same_folded t k ≡ false → is_named (keys ms) t ≡ false
    → is_named (keys (put k j ms)) t ≡ false
named_put t k j [] e n = nor (is_same_folded t k) false e refl
named_put t k j (m ∷ ms) e n =
    named_put_by t k j m ms (key_cmp k m.0) e n
    (named_put t k j ms e (or_right (is_same_folded t m.0) (is_named (keys ms) t) n))

-- where a member makes loops, a name that no member has is another
other_than_copy : (t : List ℕ) (xs : List Member) (j : Json) → copies_in xs ≡ Some j → is_named (keys xs) t ≡ false
    → is_same_folded t (chars (codes "copy")) ≡ false
other_than_copy t [] j c e = cc
other_than_copy t (m ∷ ms) j c e =
    by_test (meaning.is_copy m.0) refl
    (λ g. other_than_copy t ms j g (or_right (is_same_folded t m.0) (is_named (keys ms) t) e)) c
  where
    by_test : (b : Bool) → meaning.is_copy m.0 ≡ b
        → (copies_in ms ≡ Some j → is_same_folded t (chars (codes "copy")) ≡ false)
        → (if b then Some m.1 else copies_in ms) ≡ Some j → is_same_folded t (chars (codes "copy")) ≡ false
    by_test true f h g =
        ap (is_same_folded t) (eq_word (chars (codes "copy")) m.0 f)
        ∙ or_left (is_same_folded t m.0) (is_named (keys ms) t) e
    by_test false f h g = h g

differs_from_copy : (n : List ℕ) (xs : List Member) (j : Json) → copies_in xs ≡ Some j → Differ every n (keys xs)
    → is_same_folded (chars (codes "copy")) n ≡ false
differs_from_copy n [] j c d = cc
differs_from_copy n (m ∷ ms) j c d = by_test (meaning.is_copy m.0) refl (λ g. differs_from_copy n ms j g d.1) c
  where
    by_test : (b : Bool) → meaning.is_copy m.0 ≡ b
        → (copies_in ms ≡ Some j → is_same_folded (chars (codes "copy")) n ≡ false)
        → (if b then Some m.1 else copies_in ms) ≡ Some j → is_same_folded (chars (codes "copy")) n ≡ false
    by_test true f h g =
        ap (λ k. is_same_folded k n) (eq_word (chars (codes "copy")) m.0 f) ∙ d.0 refl
    by_test false f h g = h g

none_differs : (k : List ℕ) (xs : List Member) → Differ every k (keys xs)
    → first_by (is_same_folded k) (pairs (unlooped xs)) ≡ None
none_differs k [] d = refl
none_differs k (m ∷ ms) d = by_test (meaning.is_copy m.0) (none_differs k ms d.1)
  where
    by_test : (b : Bool) → first_by (is_same_folded k) (pairs (unlooped ms)) ≡ None
        → first_by (is_same_folded k) (pairs (if b then unlooped ms else m ∷ unlooped ms)) ≡ None
    by_test true r = r
    by_test false r =
        ap (λ b. if b then Some m.1 else first_by (is_same_folded k) (pairs (unlooped ms)))
        (turned_folded k m.0 ∙ d.0 refl)
        ∙ r

-- the member that makes loops is the only one of its name
copy_alone : (xs : List Member) (j : Json) → copies_in xs ≡ Some j → Apart every (keys xs)
    → first_by (is_same_folded (chars (codes "copy"))) (pairs (unlooped xs)) ≡ None
copy_alone [] j c a = refl
copy_alone (m ∷ ms) j c a = by_test (meaning.is_copy m.0) refl (λ g. copy_alone ms j g a.1) c
  where
    by_test : (b : Bool) → meaning.is_copy m.0 ≡ b
        → (copies_in ms ≡ Some j → first_by (is_same_folded (chars (codes "copy"))) (pairs (unlooped ms)) ≡ None)
        → (if b then Some m.1 else copies_in ms) ≡ Some j
        → first_by (is_same_folded (chars (codes "copy"))) (pairs (if b then unlooped ms else m ∷ unlooped ms)) ≡ None
    by_test true f h g =
        none_differs (chars (codes "copy")) ms
        (subst (λ k. Differ every k (keys ms)) (sym (eq_word (chars (codes "copy")) m.0 f)) a.0)
    by_test false f h g =
        ap (λ b. if b then Some m.1 else first_by (is_same_folded (chars (codes "copy"))) (pairs (unlooped ms)))
        (differs_from_copy m.0 ms j g a.0)
        ∙ h g

-- ---- objects that are left out where they are empty

pub unless_kept : (fault : Json → Option TemplateFault) (j : Json) (ws : List Member)
    → fault (object (pairs ws)) ≡ None → suc (members_nesting ws) ≤ nesting j
    → Holds (Kept fault j) (object_unless_empty ws)
unless_kept fault j [] e h = tt
unless_kept fault j (w ∷ ws) e h = (e, h)

-- ---- the variables of a template

abbrev VariableRule : Sight → Place → List (List ℕ) → List ℕ → Json → Option TemplateFault
VariableRule here place names k j =
    if is_copy k then loops_fault here place Variables names j else value_fault here place j

-- these members are the variables, written
Rewritten : Sight → Place → List Member → List Member → Type 0
Rewritten here place xs ws =
    (members_fault [] every (variable_member here place (keys ws)) (pairs ws) ≡ None)
    × (members_nesting ws ≤ members_nesting xs)

plain_rewritten : (here : Sight) (place : Place) (xs : List Member)
    → Accepts (VariableRule here place (keys xs)) (pairs xs)
    → Apart every (keys xs) → Rewritten here place xs (unlooped xs)
unfolding Rewritten
plain_rewritten here place xs a d =
    let new = keys (unlooped xs) in (
      ap (decided None)
          (faulty_nothing every (variable_member here place new) (pairs (unlooped xs))
          (others_accepted (loops_fault here place Variables (keys xs)) (loops_fault here place Variables new)
          (λ k j. value_fault here place j) xs a) (apart_unlooped xs d)),
      nests_unlooped xs,
    )

looped_rewritten : (here : Sight) (place : Place) (xs : List Member) (js : Row)
    → Accepts (VariableRule here place (keys xs)) (pairs xs) → Apart every (keys xs) → copies_in xs ≡ Some (array js)
    → loops_fault here place Variables (keys xs) (array js) ≡ None
    → Rewritten here place xs (put (chars (codes "copy")) (array (row (map relooped (items js)))) (unlooped xs))
unfolding Rewritten
looped_rewritten here place xs js a d c e =
    let k = chars (codes "copy") in
    let arr = array (row (map relooped (items js))) in
    let ws = put k arr (unlooped xs) in
    let new = keys ws in
    let inner : Within new (keys xs) =
    λ t n. named_put t k arr (unlooped xs) (other_than_copy t xs (array js) c n) (named_unlooped t xs n) in
    let loops = loops_kept here place Variables (keys xs) new 0 js inner e in
    let deep = subst (NestsWithin (members_nesting xs)) c (within_copies xs) in (
      ap (decided None)
          (faulty_nothing every (variable_member here place new) (pairs ws)
          (accepts_put (variable_member here place new) k arr (unlooped xs)
          (ap (λ w. variable_member here place new w arr) (ascii.word (codes "copy") refl) ∙ loops.0)
          (others_accepted (loops_fault here place Variables (keys xs)) (loops_fault here place Variables new)
          (λ k j. value_fault here place j) xs a))
          (apart_put every k arr (unlooped xs) (copy_alone xs (array js) c d) (apart_unlooped xs d))),
      put_nests (members_nesting xs) k arr (unlooped xs) (omega (arith, deep, loops.1)) (nests_unlooped xs),
    )

rewritten_by : (here : Sight) (place : Place) (xs : List Member) (o : Option Json)
    → Accepts (VariableRule here place (keys xs)) (pairs xs) → Apart every (keys xs) → copies_in xs ≡ o
    → Holds (λ j. loops_fault here place Variables (keys xs) j ≡ None) o
    → Rewritten here place xs
    (put_slot (codes "copy") (array_unless_empty (map relooped (items_in o))) (unlooped xs))
unfolding put_slot
rewritten_by here place xs None a d c h = plain_rewritten here place xs a d
rewritten_by here place xs (Some null) a d c h = cc
rewritten_by here place xs (Some (bool b)) a d c h = cc
rewritten_by here place xs (Some (int z)) a d c h = cc
rewritten_by here place xs (Some (text t)) a d c h = cc
rewritten_by here place xs (Some (array no_items)) a d c h = plain_rewritten here place xs a d
rewritten_by here place xs (Some (array (item j js))) a d c h = looped_rewritten here place xs (item j js) a d c h
rewritten_by here place xs (Some (object ms)) a d c h = cc

members_rewritten : (here : Sight) (place : Place) (xs : List Member)
    → variables_fault here place (object (pairs xs)) ≡ None
    → Rewritten here place xs (written_variables (meaning.variables_of xs))
members_rewritten here place xs e =
    let s = sound_members [] every (variable_member here place (keys xs)) (pairs xs) e in
    subst (Rewritten here place xs) (sym (variables_written xs))
    (rewritten_by here place xs (copies_in xs) s.accepted s.apart refl
    (copies_accepted (loops_fault here place Variables (keys xs)) (λ k j. value_fault here place j) xs s.accepted))

pub variable_loops_fine : (here : Sight) (place : Place) (xs : List Member)
    → variables_fault here place (object (pairs xs)) ≡ None
    → Holds (λ j. loops_fault here place Variables (keys xs) j ≡ None) (copies_in xs)
variable_loops_fine here place xs e =
    let s = sound_members [] every (variable_member here place (keys xs)) (pairs xs) e in
    copies_accepted (loops_fault here place Variables (keys xs)) (λ k j. value_fault here place j) xs s.accepted

-- the variables are kept
pub variables_kept : (here : Sight) (place : Place) (j : Json) → variables_fault here place j ≡ None
    → Holds (Kept (variables_fault here place) j)
    (object_unless_empty (written_variables (meaning.variables_of (members_in (Some j)))))
unfolding Rewritten
variables_kept here place null e = cc
variables_kept here place (bool b) e = cc
variables_kept here place (int z) e = cc
variables_kept here place (text t) e = cc
variables_kept here place (array js) e = cc
variables_kept here place (object ms) e =
    let same = pairs-members ms in
    let r = members_rewritten here place (members ms)
    (subst (λ ps. variables_fault here place (object ps) ≡ None) (sym same) e) in
    unless_kept (variables_fault here place) (object ms) (written_variables (meaning.variables_of (members ms))) r.0
    (omega (arith, r.1, ap pairs_nesting same))

-- ---- arguments of nested deployments

item_there : (j : Json) → has_item j ≡ is_some (first_in (items_in (Some j)))
item_there null = refl
item_there (bool b) = refl
item_there (int z) = refl
item_there (text t) = refl
item_there (array no_items) = refl
item_there (array (item j js)) = refl
item_there (object ms) = refl

loop_there : (xs : List Member) → pairs_loop (pairs xs) ≡ is_some (first_in (items_in (copies_in xs)))
loop_there [] = refl
loop_there (m ∷ ms) =
    ap (λ b. if b then has_item m.1 else pairs_loop (pairs ms)) (sym (copy_same m.0))
    ∙ by_test (meaning.is_copy m.0) (loop_there ms)
  where
    by_test : (b : Bool) → pairs_loop (pairs ms) ≡ is_some (first_in (items_in (copies_in ms)))
        → (if b then has_item m.1 else pairs_loop (pairs ms))
        ≡ is_some (first_in (items_in (if b then Some m.1 else copies_in ms)))
    by_test true h = item_there m.1
    by_test false h = h

-- the first of the loops, where there is one
first_loop : (here : Sight) (names : List (List ℕ)) (n : ℕ) (o : Option Json)
    → Holds (λ j. loops_fault here Elsewhere Argument names j ≡ None) o → NestsWithin n o
    → Holds (λ j. (loop_fault here Elsewhere Argument names j ≡ None) × (suc (nesting j) ≤ n)) (first_in (items_in o))
first_loop here names n None h w = tt
first_loop here names n (Some null) h w = tt
first_loop here names n (Some (bool b)) h w = tt
first_loop here names n (Some (int z)) h w = tt
first_loop here names n (Some (text t)) h w = tt
first_loop here names n (Some (array no_items)) h w = tt
first_loop here names n (Some (array (item j js))) h w = (
  (then_none (to_item 0) (loop_fault here Elsewhere Argument names j)
      (row_loops_fault here Elsewhere Argument (names_with names (loop_name j)) (0 + 1) js) h).0,
  omega (arith, w),
)
first_loop here names n (Some (object ms)) h w = tt

argument_passes : (here : Sight) (c : Content) → ContentFine here Elsewhere c
    → argument_fault here (an_object (argument_slots c)) ≡ None
unfolding put_slot
argument_passes here (content.Value v) f =
    ap (λ k. argument_in here (pair k (json v) no_pairs)) (ascii.word (codes "value") refl)
    ∙ ap (λ o. decided None (then_members (codes "value") o None)) f
argument_passes here (content.Copy count input) f =
    let loop = value_loop (json count) (json input) in
    let new = ap (λ t. new_name_fault Argument (codes "copy" ∷ []) (text t)) (ascii.word (codes "value") refl) in
    ap (λ k. argument_in here (pair k (array (row (loop ∷ []))) no_pairs)) (ascii.word (codes "copy") refl)
    ∙ ap (λ o. decided None (then_members (codes "copy") (then_faults (to_item 0) o None) None))
    (loop_passes here Elsewhere Argument (codes "copy" ∷ []) (chars (codes "value")) (json count) (json input) new
    f.0 f.1)

-- what is known of the content of an argument with these members
argument_content : (here : Sight) (names : List (List ℕ)) (n : ℕ) (c o : Option Json)
    → Holds (λ j. (loop_fault here Elsewhere Argument names j ≡ None) × (suc (nesting j) ≤ n)) c
    → Holds (λ j. value_fault here Elsewhere j ≡ None) (inside (codes "value") o)
    → NestsWithin n (inside (codes "value") o)
    → ContentFine here Elsewhere (content_by c o) × NestsWithin n (value_slot (content_by c o))
    × NestsWithin n (argument_loop (content_by c o))
argument_content here names n None o h v w = (
  kept_value (λ j. value_fault here Elsewhere j ≡ None) refl (inside (codes "value") o) v,
  within_value n (inside (codes "value") o) w,
  tt,
)
argument_content here names n (Some j) o h v w =
    let l = loop_read here Elsewhere Argument names j h.0 in
    ((l.count, l.input), tt, omega (arith, h.1, l.within (chars (codes "value"))))

argument_rule_at : (here : Sight) (names : List (List ℕ)) → At (argument_member here names) (codes "value")
argument_rule_at here names k j e =
    ap (λ b. if b then loops_fault here Elsewhere Argument names j
    else (if is_same_folded (codes "value") k then value_fault here Elsewhere j else Some (WrongForm [])))
    (no_copy (codes "value") k refl e)
    ∙ ap (λ f. if bytes_eq (fold (codes "value")) f then value_fault here Elsewhere j else Some (WrongForm [])) e

argument_members_kept : (here : Sight) (xs : List Member) → argument_in here (pairs xs) ≡ None
    → Kept (argument_fault here) (object (pairs xs))
    (an_object (argument_slots (content_by (first_in (items_in (copies_in xs))) (Some (object (pairs xs))))))
argument_members_kept here xs e =
    let names = keys xs in
    let rule = argument_member here names in
    let s = sound_members (argument_members (pairs_loop (pairs xs))) every rule (pairs xs) e in
    let v = Some (object (pairs xs)) in
    let n = members_nesting xs in
    let first = first_loop here names n (copies_in xs)
    (copies_accepted (loops_fault here Elsewhere Argument names)
    (λ k j. if is_same_folded (codes "value") k then value_fault here Elsewhere j else Some (WrongForm [])) xs
    s.accepted) (within_copies xs) in
    let value = found_accepted rule (codes "value") refl (argument_rule_at here names) (pairs xs) s.accepted in
    let c = content_by (first_in (items_in (copies_in xs))) v in
    let parts = argument_content here names n (first_in (items_in (copies_in xs))) v first value
    (inside_within (codes "value") (pairs xs)) in
    (argument_passes here c parts.0, object_within n (argument_slots c) (parts.1, (parts.2, tt)))

-- an argument is kept
pub argument_kept : (here : Sight) (name : List ℕ) (j : Json) → argument_fault here j ≡ None
    → Kept (argument_fault here) j (an_object (argument_slots (argument_of (name, j)).content))
argument_kept here name null e = cc
argument_kept here name (bool b) e = cc
argument_kept here name (int z) e = cc
argument_kept here name (text t) e = cc
argument_kept here name (array js) e = cc
argument_kept here name (object ms) e =
    let same = pairs-members ms in
    subst (λ ps. Kept (argument_fault here) (object ps)
    (an_object (argument_slots (content_by (first_in (items_in (copies_in (members ms)))) (Some (object ps)))))) same
    (argument_members_kept here (members ms) (subst (λ ps. argument_in here ps ≡ None) (sym same) e))
