-- Arrays and objects of trees, part by part.
use Rattle.reading.specs.Knowledge as knowledge
use Rattle.reading.specs.Knowledge.{told, finished, and_then, both_told}
use Rattle.std.proofs.Common.{◌≡◌, ℕ, zero, suc, List, [], ◌∷◌, ◌++◌, map, Bool, true, false, Option, Some, None}
use Rattle.std.proofs.Common.{option_map, refl, sym, ap, ◌∙◌, subst, add-one}
use Rattle.std.proofs.lemmas.List.{append_assoc, append-nil}
use Rattle.std.specs.Prelude.{if◌then◌else◌, ◌&&◌, option_and_then}
use Rattle.std.specs.List.{range_with_len}
use Rattle.arm_value.proofs.MemberLemmas.{put_each-append}
use Rattle.arm_value.specs.Json.{Json, null, bool, int, text, array, object, row, pairs}
use Rattle.arm_value.specs.Json.{Member, put_each, pair_keys}
use Rattle.arm_value.specs.View.{json, member}
use Rattle.arm_value.specs.declared.value.Value.{Value}
use Rattle.arm_value.specs.declared.value.Field.{Field}
use Rattle.reading.specs.Reading.{done, pure, none, continued, both}
use Rattle.reading.specs.Knowledge.{Known}
use Rattle.arm_env.specs.Look.{Look, Fact, Looking, Surroundings, all}
use Rattle.arm_env.specs.Part.{kept}
use Rattle.arm_env.specs.Held.{capped}
use Rattle.arm_env.specs.Answer.{outcome_told, gathered, Stops}
use Rattle.arm_env.specs.declared.stop.Stop.{Stop}
use Rattle.arm_env.specs.declared.stop.Stop.TheVariants as stop
use Rattle.arm_eval.specs.Trees.{Copy, tree_value, row_values, own_member, own_members, given_members}
use Rattle.arm_eval.specs.Trees.{copies, row_copies, copied, copy_in, turns, counted, array_of, concat, joined}
use Rattle.arm_eval.specs.Trees.{names_of, are_new, differ, object_by}
use Rattle.arm_eval.specs.Words.{values_of, owns_of, copies_of, put_all, kept_array, kept_object, whole_object}
use Rattle.arm_eval.specs.Words.{trees_in, copy_tree}
use Rattle.arm_env.proofs.Answers.{told-done, told-continued, told-both, told-capped, stops}
use Rattle.arm_eval.proofs.TurnLemmas.{turn_at, array_given, array_stops}
use Rattle.arm_env.proofs.Turns.{given_in}
use Rattle.arm_value.proofs.TreeLemmas.{row-items}
use Rattle.arm_expr.specs.Brackets.{is_copy}

-- ---- lists of the code and rows

pub row_given : (here : Surroundings) (vs : List Value) → row_values (row (map json vs)) here ≡ values_of here vs
row_given here [] = refl
row_given here (v ∷ vs) = ap (λ os. tree_value (json v) here ∷ os) (row_given here vs)

pub owns_given : (here : Surroundings) (fs : List Field) → own_members (pairs (map member fs)) here ≡ owns_of here fs
owns_given here [] = refl
owns_given here (f ∷ fs) = ap (λ os. own_member f.name (tree_value (json f.value) here) ∷ os) (owns_given here fs)

pub copies_given : (here : Surroundings) (vs : List Value) → row_copies (row (map json vs)) here ≡ copies_of here vs
copies_given here [] = refl
copies_given here (v ∷ vs) = ap (λ os. copied here (copy_in (json v)) ∷ os) (copies_given here vs)

pub keys_are : (ms : List Member) → pair_keys (pairs ms) ≡ names_of ms
keys_are [] = refl
keys_are (m ∷ ms) = ap (λ ks. m.0 ∷ ks) (keys_are ms)

-- an array and an object of the code
pub array_is : (here : Surroundings) (js : List Json) (vs : List Value) → map json vs ≡ js
    → tree_value (array (row js)) here ≡ array_of (values_of here vs)
array_is here js vs e = ap (λ js. array_of (row_values (row js) here)) (sym e) ∙ ap array_of (row_given here vs)

pub object_is : (here : Surroundings) (ms : List Member) (fs : List Field) → map member fs ≡ ms
    → tree_value (object (pairs ms)) here ≡ object_by (names_of (map member fs)) (owns_of here fs)
    (given_members (pairs (map member fs)) here)
object_is here ms fs e =
    ap (λ ms. tree_value (object (pairs ms)) here) (sym e)
    ∙ (λ i. object_by (keys_are (map member fs) i) (owns_given here fs i)
    (given_members (pairs (map member fs)) here))

-- ---- an object's own members

concat-more : (mss : List (List Member)) (ms : List Member) → concat (mss ++ ms ∷ []) ≡ concat mss ++ ms
concat-more [] ms = append-nil ms
concat-more (ns ∷ mss) ms = ap (λ r. ns ++ r) (concat-more mss ms) ∙ sym (append_assoc ns (concat mss) ms)

pub put_all-more : (mss : List (List Member)) (ms : List Member) → put_all (mss ++ ms ∷ []) ≡ put_each (put_all mss) ms
put_all-more mss ms = ap (put_each []) (concat-more mss ms) ∙ put_each-append [] (concat mss) ms

-- one member, and a named value
abbrev one_member : List ℕ → Json → List Member
one_member k v = (k, v) ∷ []

module _ (p : Look → Known Fact) where
  pub own_copy : (k : List ℕ) (o : Looking Json) → is_copy k ≡ true
      → outcome_told (told p (own_member k o)) ≡ knowledge.value (Some [])
  own_copy k o e =
      ap (λ b. outcome_told (told p (if b then pure [] else continued o (λ v. pure (one_member k v))))) e
      ∙ ap outcome_told (told-done p (Some []))

  own_is : (k : List ℕ) (o : Looking Json) → is_copy k ≡ false
      → told p (own_member k o) ≡ and_then (told p o) (λ v. told p (pure (one_member k v)))
  own_is k o e = ap (λ b. told p (if b then pure [] else continued o (λ v. pure (one_member k v)))) e
      ∙ told-continued p o (λ v. pure (one_member k v))

  own_next : (k : List ℕ) (a : Option Json)
      → outcome_told (and_then (finished a) (λ v. told p (pure (one_member k v))))
      ≡ knowledge.value (option_map (one_member k) a)
  own_next k (Some v) = ap outcome_told (told-done p (Some (one_member k v)))
  own_next k None = refl

  pub own_told : (k : List ℕ) (o : Looking Json) (a : Option Json) → is_copy k ≡ false
      → outcome_told (told p o) ≡ knowledge.value a
      → outcome_told (told p (own_member k o)) ≡ knowledge.value (option_map (one_member k) a)
  own_told k o a e found =
      ap outcome_told (own_is k o e
      ∙ ap (λ t. and_then t (λ v. told p (pure (one_member k v)))) (given_in (told p o) a found)) ∙ own_next k a

  own_halts : (s : Stop) (k : List ℕ) (t : knowledge.Told Look Json) → Stops s (outcome_told t)
      → Stops s (outcome_told (and_then t (λ v. told p (pure (one_member k v)))))
  own_halts stop.NoValue k (knowledge.value x) h = absurd cc
  own_halts stop.NoValue k knowledge.no_value h = absurd cc
  own_halts stop.NoValue k (knowledge.waits l) h = absurd cc
  own_halts (stop.Waits l) k (knowledge.value x) h = absurd cc
  own_halts (stop.Waits l) k knowledge.no_value h = absurd cc
  own_halts (stop.Waits l) k (knowledge.waits m) h = cc
  own_halts stop.OutOfMemory k t h = tt

  pub own_stops : (s : Stop) (k : List ℕ) (o : Looking Json) → is_copy k ≡ false
      → Stops s (outcome_told (told p o)) → Stops s (outcome_told (told p (own_member k o)))
  own_stops s k o e h = let P : knowledge.Told Look (List Member) → Type 0 = λ t. Stops s (outcome_told t) in
      subst P (sym (own_is k o e)) (own_halts s k (told p o) h)

-- ---- the members that `copy` gives

abbrev by_copy : Surroundings → Option Json → Looking (List Member)
by_copy here None = pure []
by_copy here (Some j) = copies j here

by_choice : (here : Surroundings) (b : Bool) (j : Json) (o : Option Json)
    → (if b then copies j here else by_copy here o) ≡ by_copy here (if b then Some j else o)
by_choice here true j o = refl
by_choice here false j o = refl

given_by : (here : Surroundings) (ms : List Member) → given_members (pairs ms) here ≡ by_copy here (copy_tree ms)
given_by here [] = refl
given_by here (m ∷ ms) = ap (λ r. if is_copy m.0 then copies m.1 here else r) (given_by here ms)
    ∙ by_choice here (is_copy m.0) m.1 (copy_tree ms)

pub given_is : (here : Surroundings) (ms : List Member) (j : Json) → Some j ≡ copy_tree ms
    → given_members (pairs ms) here ≡ copies j here
given_is here ms j e = given_by here ms ∙ ap (by_copy here) (sym e)

pub nothing_given : (p : Look → Known Fact) (here : Surroundings) (ms : List Member) → None ≡ copy_tree ms
    → told p (given_members (pairs ms) here) ≡ knowledge.value []
nothing_given p here ms e = ap (told p) (given_by here ms ∙ ap (by_copy here) (sym e)) ∙ told-done p (Some [])

abbrev by_trees : Surroundings → Option (List Json) → Looking (List Member)
by_trees here None = none
by_trees here (Some js) = all (row_copies (row js) here)

copies_by : (here : Surroundings) (j : Json) → copies j here ≡ by_trees here (trees_in j)
copies_by here null = refl
copies_by here (bool b) = refl
copies_by here (int z) = refl
copies_by here (text t) = refl
copies_by here (array js) = ap (λ r. all (row_copies r here)) (sym (row-items js))
copies_by here (object ms) = refl

pub copies_are : (here : Surroundings) (j : Json) (vs : List Value) → Some (map json vs) ≡ trees_in j
    → copies j here ≡ all (copies_of here vs)
copies_are here j vs e = copies_by here j ∙ ap (by_trees here) (sym e) ∙ ap all (copies_given here vs)

pub no_copies : (p : Look → Known Fact) (here : Surroundings) (j : Json) → None ≡ trees_in j
    → told p (copies j here) ≡ knowledge.no_value
no_copies p here j e = ap (told p) (copies_by here j ∙ ap (by_trees here) (sym e)) ∙ told-done p None

-- ---- the member that a loop gives

turns-from : (c : Copy) (here : Surroundings) (i n : ℕ) → turns c here i n ≡ map (turn_at c here) (range_with_len i n)
turns-from c here i zero = refl
turns-from c here i (suc n) = rw add-one (ap (λ os. turn_at c here i ∷ os) (turns-from c here (suc i) n))

pub turns_are : (c : Copy) (here : Surroundings) (n : ℕ) → turns c here 0 n ≡ map (turn_at c here) (range_with_len 0 n)
turns_are c here n = turns-from c here 0 n

abbrev named : List ℕ → Json → Member
named k v = (k, v)

module _ (p : Look → Known Fact) where
  named_next : (k : List ℕ) (o : Option Json)
      → and_then (finished o) (λ v. told p (pure (named k v))) ≡ finished (option_map (named k) o)
  named_next k (Some v) = told-done p (Some (named k v))
  named_next k None = refl

  pub counted_given : (c : Copy) (here : Surroundings) (n : ℕ) (o : Option (List Json))
      → outcome_told (gathered (λ vs. vs) p (turns c here 0 n)) ≡ knowledge.value o
      → told p (counted c here n) ≡ finished (option_map (named c.name) (kept_array o))
  counted_given c here n o e =
      told-continued p (array_of (turns c here 0 n)) (λ v. pure (named c.name v))
      ∙ ap (λ t. and_then t (λ v. told p (pure (named c.name v)))) (array_given p (turns c here 0 n) o e)
      ∙ named_next c.name (kept_array o)

  pub counted_stops : (s : Stop) (c : Copy) (here : Surroundings) (n : ℕ)
      → Stops s (outcome_told (gathered (λ vs. vs) p (turns c here 0 n))) → Stops s (told p (counted c here n))
  counted_stops s c here n h = stops s p (array_of (turns c here 0 n)) _ (array_stops p s (turns c here 0 n) h)

-- ---- an object

first_stops : {A B : Type 0} (s : Stop) (t : knowledge.Told Look A) (u : knowledge.Told Look B)
    → Stops s (outcome_told t)
    → Stops s (both_told t u)
first_stops stop.NoValue (knowledge.value x) u h = absurd cc
first_stops stop.NoValue knowledge.no_value u h = absurd cc
first_stops stop.NoValue (knowledge.waits k) u h = absurd cc
first_stops (stop.Waits l) (knowledge.value x) u h = absurd cc
first_stops (stop.Waits l) knowledge.no_value u h = absurd cc
first_stops (stop.Waits l) (knowledge.waits k) u h = cc
first_stops stop.OutOfMemory t u h = tt

second_stops : {A B : Type 0} (s : Stop) (o : Option A) (u : knowledge.Told Look B) → Stops s u
    → Stops s (both_told (finished o) u)
second_stops stop.NoValue (Some x) (knowledge.value y) h = absurd cc
second_stops stop.NoValue (Some x) knowledge.no_value h = refl
second_stops stop.NoValue (Some x) (knowledge.waits k) h = absurd cc
second_stops stop.NoValue None (knowledge.value y) h = absurd cc
second_stops stop.NoValue None knowledge.no_value h = refl
second_stops stop.NoValue None (knowledge.waits k) h = absurd cc
second_stops (stop.Waits l) o (knowledge.value y) h = absurd cc
second_stops (stop.Waits l) o knowledge.no_value h = absurd cc
second_stops (stop.Waits l) (Some x) (knowledge.waits k) h = cc
second_stops (stop.Waits l) None (knowledge.waits k) h = cc
second_stops stop.OutOfMemory o u h = tt

module _ (p : Look → Known Fact) (names : List (List ℕ)) where
  -- before the members are put in their order
  abbrev whole : Option (List (List Member)) → List Member → Option Json
  whole None gs = None
  whole (Some mss) gs = option_and_then kept (joined names (concat mss) gs)

  all_of : (own : Option (List Member)) (t : knowledge.Told Look (List (List Member)))
      → outcome_told (and_then t (λ mss. knowledge.value (put_all mss))) ≡ knowledge.value own
      → (o : Option (List (List Member))) × ((t ≡ finished o) × (option_map put_all o ≡ own))
  all_of own (knowledge.value mss) h = (Some mss, (refl, cc))
  all_of own knowledge.no_value h = (None, (refl, cc))
  all_of own (knowledge.waits k) h = absurd cc

  kept_done : (o : Option Json) → and_then (told p (done o)) (λ j. finished (kept j))
      ≡ finished (option_and_then kept o)
  kept_done (Some j) = ap (λ t. and_then t (λ j. finished (kept j))) (told-done p (Some j))
  kept_done None = ap (λ t. and_then t (λ j. finished (kept j))) (told-done p None)

  joined_next : (o : Option (List (List Member))) (gs : List Member)
      → and_then (and_then (both_told (finished o) (knowledge.value gs)) (λ q. told p (done (joined names
      (concat q.0) q.1))))
      (λ j. finished (kept j)) ≡ finished (whole o gs)
  joined_next (Some mss) gs = kept_done (joined names (concat mss) gs)
  joined_next None gs = refl

  if_kept : (b : Bool) (mss : List (List Member)) (gs : List Member)
      → option_and_then kept (if b then Some (object (pairs (put_each [] (concat mss ++ gs)))) else None)
      ≡ (if b then kept_object (put_all mss) gs else None)
  if_kept true mss gs = ap (λ ms. kept (object (pairs ms))) (put_each-append [] (concat mss) gs)
  if_kept false mss gs = refl

  whole_is : (o : Option (List (List Member))) (gs : List Member)
      → whole o gs ≡ whole_object names (option_map put_all o) gs
  whole_is (Some mss) gs = if_kept (are_new names (names_of gs) && differ (names_of gs)) mss gs
  whole_is None gs = refl

  object_answer : (os : List (Looking (List Member))) (r : Looking (List Member))
      → told p (object_by names os r)
      ≡ and_then
      (and_then (both_told (told p (all os)) (told p r))
      (λ q. told p (done (joined names (concat q.0) q.1)))) (λ j. finished (kept j))
  object_answer os r =
      told-capped p _ ∙ ap (λ t. and_then t (λ j. finished (kept j))) (told-continued p (both (all os) r) _
      ∙ ap (λ t. and_then t (λ q. told p (done (joined names (concat q.0) q.1)))) (told-both p (all os) r))

  pub object_told : (os : List (Looking (List Member))) (r : Looking (List Member)) (own : Option (List Member))
      (gs : List Member) → outcome_told (gathered put_all p os) ≡ knowledge.value own → told p r ≡ knowledge.value gs
      → told p (object_by names os r) ≡ finished (whole_object names own gs)
  object_told os r own gs e found =
      let o = all_of own (told p (all os)) e in
      object_answer os r
      ∙ (λ i. and_then
      (and_then (both_told (o.1.0 i) (found i)) (λ q. told p (done (joined names (concat q.0) q.1))))
      (λ j. finished (kept j)))
      ∙ joined_next o.0 gs ∙ ap finished (whole_is o.0 gs ∙ ap (λ own. whole_object names own gs) o.1.1)

  gathered_stops : (s : Stop) (t : knowledge.Told Look (List (List Member)))
      → Stops s (outcome_told (and_then t (λ mss. knowledge.value (put_all mss)))) → Stops s (outcome_told t)
  gathered_stops stop.NoValue (knowledge.value x) h = absurd cc
  gathered_stops stop.NoValue knowledge.no_value h = absurd cc
  gathered_stops stop.NoValue (knowledge.waits k) h = absurd cc
  gathered_stops (stop.Waits l) (knowledge.value x) h = absurd cc
  gathered_stops (stop.Waits l) knowledge.no_value h = absurd cc
  gathered_stops (stop.Waits l) (knowledge.waits k) h = cc
  gathered_stops stop.OutOfMemory t h = tt

  both_stop : (s : Stop) (os : List (Looking (List Member))) (r : Looking (List Member))
      → Stops s (both_told (told p (all os)) (told p r)) → Stops s (told p (object_by names os r))
  unfolding capped
  both_stop s os r h =
      let P : knowledge.Told Look (List (List Member) × List Member) → Type 0 = Stops s in
      stops s p (continued (both (all os) r) _) _
      (stops s p (both (all os) r) _ (subst P (sym (told-both p (all os) r)) h))

  pub own_stops_object : (s : Stop) (os : List (Looking (List Member))) (r : Looking (List Member))
      → Stops s (outcome_told (gathered put_all p os)) → Stops s (told p (object_by names os r))
  own_stops_object s os r h =
      both_stop s os r (first_stops s (told p (all os)) (told p r) (gathered_stops s (told p (all os)) h))

  pub given_stops_object : (s : Stop) (os : List (Looking (List Member))) (r : Looking (List Member))
      (own : Option (List Member)) → outcome_told (gathered put_all p os) ≡ knowledge.value own → Stops s (told p r)
      → Stops s (told p (object_by names os r))
  given_stops_object s os r own e h =
      let o = all_of own (told p (all os)) e in
      let P : knowledge.Told Look (List (List Member)) → Type 0 = λ t. Stops s (both_told t (told p r)) in
      both_stop s os r (subst P (sym o.1.0) (second_stops s o.0 (told p r) h))
