-- How deep the values of trees nest.
use Rattle.reading.specs.Knowledge as knowledge
use Rattle.reading.specs.Knowledge.{told, finished, and_then, both_told}
use Rattle.std.proofs.Common.{◌≡◌, ◌≤◌, ℕ, List, [], ◌∷◌, Bool, true, false, nat_le, Option, Some, None, refl, sym}
use Rattle.std.proofs.Common.{ap, ◌∙◌, subst, arith}
use Rattle.std.specs.Prelude.{if◌then◌else◌, IfOk, MatchOption, Result, Ok, Err}
use Rattle.arm_value.specs.Json.{Json, null, bool, int, text, array, object, Row, no_items, item, pairs, Member}
use Rattle.arm_value.specs.Json.{nesting, members_nesting}
use Rattle.arm_value.specs.View.{json}
use Rattle.arm_value.specs.declared.value.Value.{Value}
use Rattle.arm_env.specs.Answer.{Gives, outcome_of, outcome_told}
use Rattle.arm_env.specs.declared.stop.Stop.{Stop}
use Rattle.arm_env.specs.declared.stop.Stop.TheVariants as stop
use Rattle.reading.specs.Reading.{done, pure, none, continued, both}
use Rattle.reading.specs.Knowledge.{Known}
use Rattle.arm_env.specs.Look.{Look, Fact, Looking, Surroundings, all}
use Rattle.arm_env.specs.Part.{kept}
use Rattle.arm_env.specs.Held.{capped, forced}
use Rattle.expression_values.specs.Meaning.{used, held}
use Rattle.arm_expr.specs.Brackets.{Meaning, plain, an_expression, meaning as text_meaning, is_copy}
use Rattle.arm_eval.specs.Text.{expression_of}
use Rattle.arm_eval.specs.Trees.{Copy, said_value, tree_value, given_members, copies, row_copies, copied}
use Rattle.arm_eval.specs.Trees.{copy_in, turns, counting, counted, array_of}
use Rattle.arm_expr.specs.Tree.{Tree}
use Rattle.expression_values.specs.Meaning as meaning
use Rattle.arm_env.proofs.Answers.{same_value, never_value, told-done, told-continued, told-both, told-capped}
use Rattle.foundation.proofs.Comparisons.{le_of_true}

-- where a value came from
record CameFrom {A B : Type 0} (t : knowledge.Told Look A) (f : A → knowledge.Told Look B) (y : B) : Type 0 where
  value : A
  was : t ≡ knowledge.value value
  then_was : f value ≡ knowledge.value y

came : {A B : Type 0} (t : knowledge.Told Look A) (f : A → knowledge.Told Look B) (y : B) → and_then t f
    ≡ knowledge.value y → CameFrom t f y
came (knowledge.value x) f y e = record { value = x; was = refl; then_was = e }
came knowledge.no_value f y e = absurd cc
came (knowledge.waits k) f y e = absurd cc

kept_by : (j v : Json) (b : Bool) → nat_le (nesting j) 100 ≡ b → finished {C = Look} (if b then Some j else None)
    ≡ knowledge.value v
    → nesting v ≤ 100
kept_by j v true h e =
    let same : j ≡ v = cc in
    subst (λ v. nesting v ≤ 100) same (le_of_true (nesting j) 100 h)
kept_by j v false h e = absurd cc

kept_nests : (j v : Json) → finished {C = Look} (kept j) ≡ knowledge.value v → nesting v ≤ 100
kept_nests j v e = kept_by j v (nat_le (nesting j) 100) refl e

module _ (p : Look → Known Fact) where
  pub capped_nests : (o : Looking Json) (v : Json) → told p (capped o) ≡ knowledge.value v → nesting v ≤ 100
  capped_nests o v e =
      let c = came (told p o) (λ j. finished (kept j)) v (sym (told-capped p o) ∙ e) in
      kept_nests c.value v c.then_was

  used_nests : (here : Surroundings) (e : Tree) (v : Json) → told p (meaning.value here e) ≡ knowledge.value v
      → nesting v ≤ 100
  unfolding used
  used_nests here e v found = capped_nests (continued (held here e) forced) v found

  scalar_nests : (j v : Json) → nesting j ≡ 0 → told p (pure j) ≡ knowledge.value v → nesting v ≤ 100
  scalar_nests j v flat e =
      let eq : j ≡ v = same_value (told p (pure j)) j v (told-done p (Some j)) e in
      subst (λ v. nesting v ≤ 100) eq (omega (arith, flat))

  expression_nests : (here : Surroundings) (o : Option Tree) (v : Json)
      → told p (continued (done o) (meaning.value here)) ≡ knowledge.value v → nesting v ≤ 100
  expression_nests here o v e =
      let c = came (told p (done o)) (λ x. told p (meaning.value here x)) v
      (sym (told-continued p (done o) (meaning.value here)) ∙ e) in
      used_nests here c.value v c.then_was

  said_nests : (here : Surroundings) (t : List ℕ) (s : Meaning) (v : Json) → told p (said_value here t s)
      ≡ knowledge.value v
      → nesting v ≤ 100
  said_nests here t (plain u) v e = scalar_nests (text u) v refl e
  said_nests here t an_expression v e = expression_nests here (expression_of t) v e

  pub tree_nests : (here : Surroundings) (j v : Json) → told p (tree_value j here) ≡ knowledge.value v → nesting v ≤ 100
  tree_nests here null v e = scalar_nests null v refl e
  tree_nests here (bool b) v e = scalar_nests (bool b) v refl e
  tree_nests here (int z) v e = scalar_nests (int z) v refl e
  tree_nests here (text t) v e = said_nests here t (text_meaning t) v e
  tree_nests here (array js) v e = capped_nests _ v e
  tree_nests here (object ms) v e = capped_nests _ v e

  value_in_outcome : (t : knowledge.Told Look Json) (v : Json) → outcome_told t ≡ knowledge.value (Some v) → t
      ≡ knowledge.value v
  value_in_outcome (knowledge.value x) v e = cc
  value_in_outcome knowledge.no_value v e = absurd cc
  value_in_outcome (knowledge.waits k) v e = absurd cc

  pub outcome_nests : (here : Surroundings) (j v : Json)
      → outcome_told (told p (tree_value j here)) ≡ knowledge.value (Some v) → nesting v ≤ 100
  outcome_nests here j v e = tree_nests here j v (value_in_outcome (told p (tree_value j here)) v e)

  -- the outcome of a tree nests no deeper than its value
  pub nests_in_outcome : (here : Surroundings) (j : Json) (r : Result Value Stop)
      → Gives json r (told p (tree_value j here))
      → IfOk (outcome_of r) (λ o. MatchOption o (Unit {0}) (λ v. nesting (json v) ≤ 100))
  nests_in_outcome here j (Ok v) h = tree_nests here j (json v) h
  nests_in_outcome here j (Err stop.NoValue) h = tt
  nests_in_outcome here j (Err (stop.Waits k)) h = tt
  nests_in_outcome here j (Err stop.OutOfMemory) h = tt

  -- the members that loops give
  counted_nests : (c : Copy) (here : Surroundings) (n : ℕ) (m : Member) → told p (counted c here n) ≡ knowledge.value m
      → nesting m.1 ≤ 100
  counted_nests c here n m e =
      let f = came (told p (array_of (turns c here 0 n))) (λ v. told p (pure (c.name, v))) m
      (sym (told-continued p (array_of (turns c here 0 n)) (λ v. pure (c.name, v))) ∙ e) in
      let eq : (c.name, f.value) ≡ m = same_value (told p (pure (c.name, f.value))) (c.name, f.value) m
      (told-done p (Some (c.name, f.value))) f.then_was in
      subst (λ (m : Member). nesting m.1 ≤ 100) eq (capped_nests _ f.value f.was)

  copied_nests : (here : Surroundings) (c : Option Copy) (m : Member) → told p (copied here c) ≡ knowledge.value m
      → nesting m.1 ≤ 100
  copied_nests here None m e = absurd (never_value (told p (copied here None)) m (told-done p None) e)
  copied_nests here (Some c) m e =
      let f = came (told p (counting (c.count here))) (λ n. told p (counted c here n)) m
      (sym (told-continued p (counting (c.count here)) (counted c here)) ∙ e) in
      counted_nests c here f.value m f.then_was

  both_values : {A B : Type 0} (s : knowledge.Told Look A) (t : knowledge.Told Look B) (x : A × B) → both_told s t
      ≡ knowledge.value x → (s ≡ knowledge.value x.0)
      × (t ≡ knowledge.value x.1)
  both_values (knowledge.value a) (knowledge.value b) x e = let same : (a, b) ≡ x =
      cc in (ap (λ x. knowledge.value x.0) same, ap (λ x. knowledge.value x.1) same)
  both_values (knowledge.value a) knowledge.no_value x e = absurd cc
  both_values (knowledge.value a) (knowledge.waits k) x e = absurd cc
  both_values knowledge.no_value (knowledge.value b) x e = absurd cc
  both_values knowledge.no_value knowledge.no_value x e = absurd cc
  both_values knowledge.no_value (knowledge.waits k) x e = absurd cc
  both_values (knowledge.waits k) t x e = absurd cc

  none_nest : (ms : List Member) → told p (pure []) ≡ knowledge.value ms → members_nesting ms ≤ 100
  none_nest ms e =
      let eq : [] ≡ ms = same_value (told p (pure [])) [] ms (told-done p (Some [])) e in
      subst (λ ms. members_nesting ms ≤ 100) eq (omega arith)

  rows_nest : (here : Surroundings) (js : Row) (ms : List Member) → told p (all (row_copies js here))
      ≡ knowledge.value ms
      → members_nesting ms ≤ 100
  unfolding all
  rows_nest here no_items ms e = none_nest ms e
  rows_nest here (item j js) ms e =
      let o = copied here (copy_in j) in
      let os = all (row_copies js here) in
      let f = came (told p (both o os)) (λ q. told p (pure (q.0 ∷ q.1))) ms
      (sym (told-continued p (both o os) (λ q. pure (q.0 ∷ q.1))) ∙ e) in
      let parts = both_values (told p o) (told p os) f.value (sym (told-both p o os) ∙ f.was) in
      let eq : (f.value.0 ∷ f.value.1) ≡ ms = same_value (told p (pure (f.value.0 ∷ f.value.1)))
      (f.value.0 ∷ f.value.1) ms (told-done p (Some (f.value.0 ∷ f.value.1))) f.then_was in
      let first = copied_nests here (copy_in j) f.value.0 parts.0 in
      let others = rows_nest here js f.value.1 parts.1 in
      subst (λ ms. members_nesting ms ≤ 100) eq (omega (arith, first, others))

  nothing_nests : (ms : List Member) → told p none ≡ knowledge.value ms → members_nesting ms ≤ 100
  nothing_nests ms e = absurd (never_value (told p none) ms (told-done p None) e)

  copies_nest : (here : Surroundings) (j : Json) (ms : List Member) → told p (copies j here) ≡ knowledge.value ms
      → members_nesting ms ≤ 100
  copies_nest here null ms e = nothing_nests ms e
  copies_nest here (bool b) ms e = nothing_nests ms e
  copies_nest here (int z) ms e = nothing_nests ms e
  copies_nest here (text t) ms e = nothing_nests ms e
  copies_nest here (array js) ms e = rows_nest here js ms e
  copies_nest here (object fs) ms e = nothing_nests ms e

  chosen_nests : (here : Surroundings) (b : Bool) (j : Json) (r : Looking (List Member)) (ms : List Member)
      → ((ms : List Member) → told p r ≡ knowledge.value ms → members_nesting ms ≤ 100)
      → told p (if b then copies j here else r) ≡ knowledge.value ms → members_nesting ms ≤ 100
  chosen_nests here true j r ms h e = copies_nest here j ms e
  chosen_nests here false j r ms h e = h ms e

  pub given_nest : (here : Surroundings) (fs ms : List Member) → told p (given_members (pairs fs) here)
      ≡ knowledge.value ms
      → members_nesting ms ≤ 100
  given_nest here [] ms e = none_nest ms e
  given_nest here (f ∷ fs) ms e = chosen_nests here (is_copy f.0) f.1 (given_members (pairs fs) here) ms
      (given_nest here fs) e
