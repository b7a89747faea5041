-- The names of parameters, variables and outputs of a template that has no fault.
use Rattle.std.proofs.Common.{◌≡◌, inl, inr, ℕ, ◌+◌, ◌++◌, codes, Bool, true, false, List, [], ◌∷◌, map, Option}
use Rattle.std.proofs.Common.{Some, None, refl, sym, ap, ap₂, ◌∙◌, ◌||◌, subst, if◌then◌else◌}
use Rattle.arm_expr.specs.Brackets.{is_bracketed}
use Rattle.arm_value.specs.Json.{Json, null, bool, int, text, array, object, Row, no_items, item, items, Member}
use Rattle.arm_value.specs.Json.{Pairs, pairs, members, keys, pair_keys}
use Rattle.arm_value.specs.Look.{fold, is_same_folded}
use Rattle.arm_value.proofs.TreeLemmas.{pairs-members}
use Rattle.foundation.proofs.TruthValues.{or_left, or_right, nor}
use Rattle.foundation.proofs.Words.{word_eq}
use Rattle.name_set.specs.Names.{is_named}
use Rattle.plan_cells.specs.Children.{Has, AreApart, HasOwnNames}
use Rattle.template_faults.specs.Header.{template_members, describing_fault, template_member}
use Rattle.template_meaning.specs.Describes.{header_by}
use Rattle.template_meaning.specs.Parts as meaning
use Rattle.template_meaning.specs.Parts.{parameter_of, output_of, unlooped, copies_in, variable_of, looped_variable}
use Rattle.template_meaning.specs.Parts.{variables_of}
use Rattle.template_meaning.specs.Values.{inside, text_in, items_in, members_in}
use Rattle.template_members.specs.Loops.{new_name_fault, row_loops_fault, loops_fault, loop_fault}
use Rattle.template_members.specs.Objects.{Rule, every, object_fault}
use Rattle.template_members.specs.Outputs.{output_fault}
use Rattle.template_members.specs.Parameters.{parameter_fault}
use Rattle.template_members.specs.Variables.{variable_member, variables_fault}
use Rattle.template_members.specs.declared.loops.Owner.TheVariants.{Variables}
use Rattle.template_parts.specs.declared.fault.TemplateFault.TheVariants.{WrongForm}
use Rattle.template_parts.specs.declared.output.Output.{Output}
use Rattle.template_parts.specs.declared.parameter.Parameter.{Parameter}
use Rattle.template_texts.specs.declared.sight.Place.{Place}
use Rattle.template_texts.specs.declared.sight.Sight.{Sight}
use Rattle.template_values.specs.Order.{to_item}
use Rattle.template_values.specs.Values.{loop_name, names_with}
use Rattle.written_parts.proofs.FaultLemmas.{Holds, then_none, Differ, Apart, Sound, sound_members, found_accepted}
use Rattle.written_parts.proofs.GivenLemmas.{variable_loops_fine}
use Rattle.written_parts.proofs.PartLemmas.{loop_read}
use Rattle.written_parts.proofs.ValueLemmas.{by_object}
use Rattle.arm_template.proofs.HeaderLemmas.{template_at}

-- ---- names of members

-- names that differ in letters of any case are not the same after folding
other_fold : (l k : List ℕ) → is_same_folded l k ≡ false → fold l ≡ fold k → ⊥
other_fold l k d e =
    let t : is_same_folded l k ≡ true = word_eq (fold l) (fold k) e in
    let c : true ≡ false = sym t ∙ d in cc

abbrev folds : List (List ℕ) → List (List ℕ)
folds ks = map fold ks

not_among : (k : List ℕ) (ls : List (List ℕ)) → Differ every k ls → Has (fold k) (folds ls) → ⊥
not_among k [] d h = absurd h
not_among k (l ∷ ls) d (inl e) = other_fold l k (d.0 refl) e
not_among k (l ∷ ls) d (inr h) = not_among k ls d.1 h

folds_apart : (ks : List (List ℕ)) → Apart every ks → AreApart (folds ks)
folds_apart [] a = tt
folds_apart (k ∷ ks) a = (not_among k ks a.0, folds_apart ks a.1)

-- parts that are read of members, each with the name of its member
named_folds : {A : Type 0} (part : Member → A) (name : A → List ℕ) → ((m : Member) → name (part m) ≡ m.0)
    → (ms : List Member) → map (λ p. fold (name p)) (map part ms) ≡ folds (keys ms)
named_folds part name h [] = refl
named_folds part name h (m ∷ ms) = ap₂ (λ k ks. fold k ∷ ks) (h m) (named_folds part name h ms)

-- of an object whose members have names that differ
parts_apart : {A : Type 0} (part : Member → A) (name : A → List ℕ) → ((m : Member) → name (part m) ≡ m.0)
    → (rule : Rule) (o : Option Json) → Holds (λ j. object_fault [] every rule j ≡ None) o
    → AreApart (map (λ p. fold (name p)) (map part (members_in o)))
parts_apart part name h rule None e = tt
parts_apart part name h rule (Some j) e =
    by_object [] every rule (λ i. AreApart (map (λ p. fold (name p)) (map part (members_in (Some i)))))
    (λ ms s. subst (λ (l : List (List ℕ)). AreApart l) (sym (named_folds part name h (members ms)))
    (folds_apart (keys (members ms)) (subst (λ ps. Apart every (pair_keys ps)) (sym (pairs-members ms)) s.apart))) j e

-- ---- names that loops give

abbrev loop_text : Json → List ℕ
loop_text j = text_in (inside (codes "name") (Some j))

-- none of these names is the name of a loop
abbrev Free : List (List ℕ) → List Json → Type 0
Free names [] = Unit {0}
Free names (j ∷ js) = (is_named names (loop_text j) ≡ false) × Free names js

abbrev loop_folds : List Json → List (List ℕ)
loop_folds js = map (λ v. fold v.name) (map looped_variable js)

new_is_free : (names : List (List ℕ)) (t : List ℕ) → new_name_fault Variables names (text t) ≡ None
    → is_named names t ≡ false
new_is_free names t e = by_tests (is_bracketed t) (is_named names t) e
  where
    by_tests : (a b : Bool) → (if a || b then Some (WrongForm []) else None) ≡ None → b ≡ false
    by_tests true b g = cc
    by_tests false true g = cc
    by_tests false false g = refl

free_before : (names : List (List ℕ)) (t : List ℕ) (js : List Json) → Free (names ++ t ∷ []) js → Free names js
free_before names t [] f = tt
free_before names t (j ∷ js) f = (front names (loop_text j) f.0, free_before names t js f.1)
  where
    front : (ns : List (List ℕ)) (u : List ℕ) → is_named (ns ++ t ∷ []) u ≡ false → is_named ns u ≡ false
    front [] u e = refl
    front (n ∷ ns) u e =
        nor (is_same_folded u n) (is_named ns u) (or_left (is_same_folded u n) (is_named (ns ++ t ∷ []) u) e)
        (front ns u (or_right (is_same_folded u n) (is_named (ns ++ t ∷ []) u) e))

free_last : (names : List (List ℕ)) (t : List ℕ) (js : List Json) → Free (names ++ t ∷ []) js → Free (t ∷ []) js
free_last names t [] f = tt
free_last names t (j ∷ js) f = (last names (loop_text j) f.0, free_last names t js f.1)
  where
    last : (ns : List (List ℕ)) (u : List ℕ) → is_named (ns ++ t ∷ []) u ≡ false → is_named (t ∷ []) u ≡ false
    last [] u e = e
    last (n ∷ ns) u e = last ns u (or_right (is_same_folded u n) (is_named (ns ++ t ∷ []) u) e)

none_of_loops : (names : List (List ℕ)) (t : List ℕ) (js : List Json) → Free (t ∷ names) js
    → Has (fold t) (loop_folds js) → ⊥
none_of_loops names t [] f h = absurd h
none_of_loops names t (j ∷ js) f (inl e) =
    other_fold (loop_text j) t (or_left (is_same_folded (loop_text j) t) (is_named names (loop_text j)) f.0) e
none_of_loops names t (j ∷ js) f (inr h) = none_of_loops names t js f.1 h

loops_apart : (here : Sight) (place : Place) (names : List (List ℕ)) (i : ℕ) (js : Row)
    → row_loops_fault here place Variables names i js ≡ None
    → AreApart (loop_folds (items js)) × Free names (items js)
loops_apart here place names i no_items e = (tt, tt)
loops_apart here place names i (item j js) e =
    let p = then_none (to_item i) (loop_fault here place Variables names j)
    (row_loops_fault here place Variables (names_with names (loop_name j)) (i + 1) js) e in
    let l = loop_read here place Variables names j p.0 in
    let t = loop_text j in
    let rest = loops_apart here place (names ++ t ∷ []) (i + 1) js
    (subst (λ o. row_loops_fault here place Variables (names_with names o) (i + 1) js ≡ None) l.named p.1) in (
      (none_of_loops [] t (items js) (free_last names t (items js) rest.1), rest.0),
      (new_is_free names t l.new, free_before names t (items js) rest.1),
    )

-- ---- variables

abbrev variable_folds : List Member → List Json → List (List ℕ)
variable_folds ms js = map (λ v. fold v.name) (map variable_of ms ++ map looped_variable js)

not_variable : (k : List ℕ) (xs : List Member) (js : List Json) → Differ every k (keys xs) → Free (k ∷ []) js
    → Has (fold k) (variable_folds (unlooped xs) js) → ⊥
not_variable k [] js d f h = none_of_loops [] k js f h
not_variable k (m ∷ ms) js d f h = by_test (meaning.is_copy m.0) (λ g. not_variable k ms js d.1 f g) h
  where
    by_test : (b : Bool) → (Has (fold k) (variable_folds (unlooped ms) js) → ⊥)
        → Has (fold k) (variable_folds (if b then unlooped ms else m ∷ unlooped ms) js) → ⊥
    by_test true rest g = rest g
    by_test false rest (inl e) = other_fold m.0 k (d.0 refl) e
    by_test false rest (inr g) = rest g

free_one : (n : List ℕ) (names : List (List ℕ)) (js : List Json) → Free (n ∷ names) js
    → Free (n ∷ []) js × Free names js
free_one n names [] f = (tt, tt)
free_one n names (j ∷ js) f =
    let r = free_one n names js f.1 in
    let u = loop_text j in
    let a = or_left (is_same_folded u n) (is_named names u) f.0 in
    ((ap (λ b. b || false) a, r.0), (or_right (is_same_folded u n) (is_named names u) f.0, r.1))

variables_apart : (xs : List Member) (js : List Json) → Apart every (keys xs) → AreApart (loop_folds js)
    → Free (keys xs) js → AreApart (variable_folds (unlooped xs) js)
variables_apart [] js a l f = l
variables_apart (m ∷ ms) js a l f =
    by_test (meaning.is_copy m.0) (variables_apart ms js a.1 l (free_one m.0 (keys ms) js f).1)
  where
    by_test : (b : Bool) → AreApart (variable_folds (unlooped ms) js)
        → AreApart (variable_folds (if b then unlooped ms else m ∷ unlooped ms) js)
    by_test true rest = rest
    by_test false rest = (not_variable m.0 ms js a.0 (free_one m.0 (keys ms) js f).0, rest)

variables_by : (here : Sight) (place : Place) (xs : List Member) (o : Option Json) → Apart every (keys xs)
    → Holds (λ j. loops_fault here place Variables (keys xs) j ≡ None) o
    → AreApart (variable_folds (unlooped xs) (items_in o))
variables_by here place xs None a h = variables_apart xs [] a tt tt
variables_by here place xs (Some null) a h = cc
variables_by here place xs (Some (bool b)) a h = cc
variables_by here place xs (Some (int z)) a h = cc
variables_by here place xs (Some (text t)) a h = cc
variables_by here place xs (Some (array js)) a h =
    let l = loops_apart here place (keys xs) 0 js h in variables_apart xs (items js) a l.0 l.1
variables_by here place xs (Some (object ms)) a h = cc

members_apart : (here : Sight) (place : Place) (xs : List Member)
    → variables_fault here place (object (pairs xs)) ≡ None
    → AreApart (map (λ v. fold v.name) (variables_of xs))
members_apart here place xs e =
    let s = sound_members [] every (variable_member here place (keys xs)) (pairs xs) e in
    variables_by here place xs (copies_in xs) s.apart (variable_loops_fine here place xs e)

variables_differ : (here : Sight) (place : Place) (o : Option Json)
    → Holds (λ j. variables_fault here place j ≡ None) o
    → AreApart (map (λ v. fold v.name) (variables_of (members_in o)))
variables_differ here place None e = tt
variables_differ here place (Some null) e = tt
variables_differ here place (Some (bool b)) e = tt
variables_differ here place (Some (int z)) e = tt
variables_differ here place (Some (text t)) e = tt
variables_differ here place (Some (array js)) e = tt
variables_differ here place (Some (object ms)) e =
    members_apart here place (members ms)
    (subst (λ ps. variables_fault here place (object ps) ≡ None) (sym (pairs-members ms)) e)

-- ---- templates

-- the names of a template with these members, none of which is refused
pub own_names : (here : Sight) (place : Place) (ms : Pairs)
    → Sound template_members every (template_member here place) ms → HasOwnNames (header_by (Some (object ms)))
unfolding describing_fault
own_names here place ms s =
    let rule = template_member here place in
    let v = Some (object ms) in
    record {
      parameters = parts_apart parameter_of (λ (p : Parameter). p.name) (λ m. refl)
          (λ k p. parameter_fault here place p) (inside (codes "parameters") v)
          (found_accepted rule (codes "parameters") refl (template_at here place (codes "parameters")) ms s.accepted);
      variables = variables_differ here place (inside (codes "variables") v)
          (found_accepted rule (codes "variables") refl (template_at here place (codes "variables")) ms s.accepted);
      outputs = parts_apart output_of (λ (o : Output). o.name) (λ m. refl) (λ k o. output_fault here o)
          (inside (codes "outputs") v)
          (found_accepted rule (codes "outputs") refl (template_at here place (codes "outputs")) ms s.accepted);
    }

-- the names of what is no template, of which there are none
pub no_names : HasOwnNames (header_by None)
no_names = record { parameters = tt; variables = tt; outputs = tt }
