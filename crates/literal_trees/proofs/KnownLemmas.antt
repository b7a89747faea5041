-- Trees without expressions and loops look at nothing, and have their literal values.
use Rattle.std.proofs.Common.{◌≡◌, ◌≤◌, ◌∷◌, [], ℕ, Bool, true, false, List, map, Option, Some, None}
use Rattle.std.proofs.Common.{refl, sym, ap, ◌∙◌, subst, arith}
use Rattle.std.specs.Prelude.{option_map, if◌then◌else◌}
use Rattle.std.specs.List.Sorted.{IsStrictlySortedBy}
use Rattle.foundation.proofs.Options.{same_some}
use Rattle.arm_value.specs.Gathered.{item_before, pair_before}
use Rattle.arm_value.specs.Json.{Json, null, bool, int, text, array, object, Row, no_items, item, items, Pairs}
use Rattle.arm_value.specs.Json.{no_pairs, pair, members, pair_keys, key_cmp}
use Rattle.arm_value.specs.Json.{nesting, row_nesting, pairs_nesting, IsOrderly, RowIsOrderly}
use Rattle.arm_value.specs.Json.{PairsAreOrderly}
use Rattle.arm_env.specs.Look.{Surroundings}
use Rattle.arm_eval.proofs.PlainLemmas.{sure, lone, array-sure, object-sure, own-sure}
use Rattle.arm_eval.specs.Trees as trees
use Rattle.arm_eval.specs.Trees.{tree_value, row_values, own_members, given_members, said_value}
use Rattle.arm_eval.specs.Trees.{array_of, object_by}
use Rattle.arm_expr.specs.Brackets.{Meaning, plain, an_expression, plain_text, meaning, is_copy}
use Rattle.template_parameters.specs.Literal.{literal, row_literal, pairs_literal}
use Rattle.template_parameters.proofs.LiteralLemmas.{literal_nests}

-- ---- what is made of parts that are there

record Mapped {A B : Type 0} (o : Option A) (f : A → B) (b : B) : Type 0 where
  part : A
  is : o ≡ Some part
  made : f part ≡ b

mapped : {A B : Type 0} (o : Option A) (f : A → B) (b : B) → option_map f o ≡ Some b → Mapped o f b
mapped None f b e = absurd cc
mapped (Some a) f b e = record { part = a; is = refl; made = same_some e }

record Item (o : Option Json) (u : Option Row) (r : Row) : Type 0 where
  first : Json
  rest : Row
  first_is : o ≡ Some first
  rest_is : u ≡ Some rest
  made : item first rest ≡ r

an_item : (o : Option Json) (u : Option Row) (r : Row) → item_before o u ≡ Some r → Item o u r
an_item None u r e = absurd cc
an_item (Some j) None r e = absurd cc
an_item (Some j) (Some js) r e =
    record { first = j; rest = js; first_is = refl; rest_is = refl; made = same_some e }

record Pair (b : Bool) (k : List ℕ) (o : Option Json) (u : Option Pairs) (r : Pairs) : Type 0 where
  not_copy : b ≡ false
  first : Json
  rest : Pairs
  first_is : o ≡ Some first
  rest_is : u ≡ Some rest
  made : pair k first rest ≡ r

a_pair : (b : Bool) (k : List ℕ) (o : Option Json) (u : Option Pairs) (r : Pairs)
    → (if b then None else pair_before k o u) ≡ Some r → Pair b k o u r
a_pair true k o u r e = absurd cc
a_pair false k None u r e = absurd cc
a_pair false k (Some j) None r e = absurd cc
a_pair false k (Some j) (Some js) r e =
    record { not_copy = refl; first = j; rest = js; first_is = refl; rest_is = refl; made = same_some e }

-- ---- trees

keys_kept : (ms ks : Pairs) → pairs_literal ms ≡ Some ks → pair_keys ks ≡ pair_keys ms
keys_kept no_pairs ks e = ap pair_keys (sym (same_some e))
keys_kept (pair k j ms) ks e =
    let p = a_pair (is_copy k) k (literal j) (pairs_literal ms) ks e in
    ap pair_keys (sym p.made) ∙ ap (λ (r : List (List ℕ)). k ∷ r) (keys_kept ms p.rest p.rest_is)

nothing_given : (here : Surroundings) (ms ks : Pairs) → pairs_literal ms ≡ Some ks → given_members ms here ≡ sure []
nothing_given here no_pairs ks e = refl
nothing_given here (pair k j ms) ks e =
    let p = a_pair (is_copy k) k (literal j) (pairs_literal ms) ks e in
    ap (λ b. if b then trees.copies j here else given_members ms here) p.not_copy
    ∙ nothing_given here ms p.rest p.rest_is

said : (here : Surroundings) (t : List ℕ) (m : Meaning) (k : Json)
    → option_map (λ t. text t) (plain_text m) ≡ Some k → said_value here t m ≡ sure k
said here t an_expression k e = absurd cc
said here t (plain s) k e = ap sure (same_some e)

few : (j k : Json) → literal j ≡ Some k → nesting j ≤ 100 → nesting k ≤ 100
few j k e n = subst (λ m. m ≤ 100) (sym (literal_nests j k (literal j) refl e)) n

mutual
  pub known : (here : Surroundings) (j k : Json) → literal j ≡ Some k → IsOrderly j → nesting j ≤ 100
      → tree_value j here ≡ sure k
  known here null k e o n = ap sure (same_some e)
  known here (bool b) k e o n = ap sure (same_some e)
  known here (int z) k e o n = ap sure (same_some e)
  known here (text t) k e o n = said here t (meaning t) k e
  known here (array js) k e o n =
      let p = mapped (row_literal js) (λ r. array r) k e in
      ap array_of (items_known here js p.part p.is o (omega (arith, n)))
      ∙ array-sure p.part (subst (λ j. nesting j ≤ 100) (sym p.made) (few (array js) k e n)) ∙ ap sure p.made
  known here (object ms) k e o n =
      let p = mapped (pairs_literal ms) (λ r. object r) k e in
      ap (λ os. object_by (pair_keys ms) os (given_members ms here))
      (members_known here ms p.part p.is o.1 (omega (arith, n)))
      ∙ ap (object_by (pair_keys ms) (map sure (map lone (members p.part)))) (nothing_given here ms p.part p.is)
      ∙ object-sure (pair_keys ms) p.part
      (subst (λ ks. IsStrictlySortedBy key_cmp ks) (sym (keys_kept ms p.part p.is)) o.0)
      (subst (λ j. nesting j ≤ 100) (sym p.made) (few (object ms) k e n))
      ∙ ap sure p.made

  items_known : (here : Surroundings) (js ks : Row) → row_literal js ≡ Some ks → RowIsOrderly js
      → row_nesting js ≤ 100 → row_values js here ≡ map sure (items ks)
  items_known here no_items ks e o n = ap (λ r. map sure (items r)) (same_some e)
  items_known here (item j js) ks e o n =
      let p = an_item (literal j) (row_literal js) ks e in
      ap (λ a. a ∷ row_values js here) (known here j p.first p.first_is o.0 (omega (arith, n)))
      ∙ ap (λ os. sure p.first ∷ os) (items_known here js p.rest p.rest_is o.1 (omega (arith, n)))
      ∙ ap (λ r. map sure (items r)) p.made

  members_known : (here : Surroundings) (ms ks : Pairs) → pairs_literal ms ≡ Some ks → PairsAreOrderly ms
      → pairs_nesting ms ≤ 100 → own_members ms here ≡ map sure (map lone (members ks))
  members_known here no_pairs ks e o n = ap (λ r. map sure (map lone (members r))) (same_some e)
  members_known here (pair k j ms) ks e o n =
      let p = a_pair (is_copy k) k (literal j) (pairs_literal ms) ks e in
      ap (λ a. a ∷ own_members ms here)
      (own-sure k p.first (tree_value j here) p.not_copy (known here j p.first p.first_is o.0 (omega (arith, n))))
      ∙ ap (λ os. sure (lone (k, p.first)) ∷ os) (members_known here ms p.rest p.rest_is o.1 (omega (arith, n)))
      ∙ ap (λ r. map sure (map lone (members r))) p.made
