-- Trees without texts in brackets and without `copy` have themselves as their values.
use Rattle.std.proofs.Common.{◌≡◌, ◌≤◌, ◌∷◌, [], ◌++◌, ℕ, List, map, false, Option, Some, None}
use Rattle.std.proofs.Common.{Less, Greater, encode_utf8_all, refl, sym, ap, ◌∙◌, subst, arith, append_assoc}
use Rattle.std.proofs.Common.{append-nil}
use Rattle.std.proofs.lemmas.Cmp.{nat_list_cmp_total}
use Rattle.std.specs.Ordering.{ordering_reverse}
use Rattle.std.specs.Prelude.{if◌then◌else◌}
use Rattle.std.specs.List.{AllByRecursion}
use Rattle.std.specs.List.Sorted.{IsStrictlySortedBy}
use Rattle.arm_value.specs.Json.{Json, null, bool, int, text, array, object, Row, no_items, item, items, row, Pairs}
use Rattle.arm_value.specs.Json.{no_pairs, pair, pairs, members, Member, keys, pair_keys, key_cmp, put, put_each}
use Rattle.arm_value.specs.Json.{nesting, row_nesting, pairs_nesting, IsInOrder, IsOrderly, RowIsOrderly}
use Rattle.arm_value.specs.Json.{PairsAreOrderly}
use Rattle.reading.specs.Reading.{pure, done, continued, both, beside}
use Rattle.reading.specs.World.{value_in, reads_in}
use Rattle.arm_env.specs.Look.{Look, Fact, Looking, Surroundings, all}
use Rattle.arm_env.specs.Held.{capped}
use Rattle.arm_env.specs.Object.{object_of}
use Rattle.arm_expr.specs.Brackets.{plain, is_bracketed, meaning as text_meaning, meaning_in_brackets, is_copy}
use Rattle.arm_eval.specs.Plain.{IsPlain, RowIsPlain, PairsArePlain}
use Rattle.arm_eval.specs.Trees as trees
use Rattle.arm_eval.specs.Trees.{tree_value, row_values, own_member, own_members, given_members, said_value}
use Rattle.arm_eval.specs.Trees.{array_of, object_by, concat}
use Rattle.arm_value.proofs.TreeLemmas.{row-items, pairs-members}
use Rattle.foundation.proofs.Comparisons.{le_true}

-- ---- members in order are put at the end

module _ (P Q : List ℕ → Type 0) where
  each : (ks : List (List ℕ)) → ((k : List ℕ) → P k → Q k) → AllByRecursion P ks → AllByRecursion Q ks
  each [] f h = tt
  each (k ∷ ks) f h = (f k h.0, each ks f h.1)

all-push : (P : List ℕ → Type 0) (ms : List Member) (m : Member) → AllByRecursion P (keys ms) → P m.0
    → AllByRecursion P (keys (ms ++ m ∷ []))
all-push P [] m h p = (p, tt)
all-push P (n ∷ ms) m h p = (h.0, all-push P ms m h.1 p)

above : (k l : List ℕ) → key_cmp l k ≡ Less → key_cmp k l ≡ Greater
above k l e = nat_list_cmp_total.antisymm (encode_utf8_all k) (encode_utf8_all l) ∙ ap ordering_reverse e

put-end : (k : List ℕ) (j : Json) (ms : List Member) → AllByRecursion (λ l. key_cmp l k ≡ Less) (keys ms)
    → put k j ms ≡ ms ++ (k, j) ∷ []
put-end k j [] h = refl
put-end k j (m ∷ ms) h = rw (above k m.0 h.0) (ap (λ r. m ∷ r) (put-end k j ms h.1))

abbrev Below : List Member → List ℕ → Type 0
Below ns l = AllByRecursion (λ k. key_cmp l k ≡ Less) (keys ns)

put_each-end : (ns ms : List Member) → IsInOrder ns → AllByRecursion (Below ns) (keys ms) → put_each ms ns ≡ ms ++ ns
unfolding IsStrictlySortedBy
put_each-end [] ms o h = sym (append-nil ms)
put_each-end (n ∷ ns) ms o h =
    let last = each (Below (n ∷ ns)) (λ l. key_cmp l n.0 ≡ Less) (keys ms) (λ l b. b.0) h in
    let rest = each (Below (n ∷ ns)) (Below ns) (keys ms) (λ l b. b.1) h in
    ap (λ ms. put_each ms ns) (put-end n.0 n.1 ms last)
    ∙ put_each-end ns (ms ++ n ∷ []) o.1 (all-push (Below ns) ms n rest o.0)
    ∙ append_assoc ms (n ∷ []) ns

-- ---- readings that read nothing

abbrev pub sure : {A : Type 0} → A → Looking A
sure x = pure x

pub all-sure : {A : Type 0} (xs : List A) → all (map sure xs) ≡ sure xs
unfolding all continued both beside
all-sure [] = refl
all-sure (x ∷ xs) = ap (λ o. continued (both (sure x) o) (λ p. pure (p.0 ∷ p.1))) (all-sure xs)

capped-sure : (j : Json) → nesting j ≤ 100 → capped (sure j) ≡ sure j
unfolding capped continued
capped-sure j h = ap (λ b. done (if b then Some j else None)) (le_true (nesting j) 100 h)

pub array-sure : (js : Row) → nesting (array js) ≤ 100 → array_of (map sure (items js)) ≡ sure (array js)
unfolding continued
array-sure js h =
    ap (λ o. capped (continued o (λ vs. pure (array (row vs))))) (all-sure (items js))
    ∙ ap (λ r. capped (sure (array r))) (row-items js) ∙ capped-sure (array js) h

abbrev pub lone : Member → List Member
lone m = m ∷ []

concat-lone : (ms : List Member) → concat (map lone ms) ≡ ms
concat-lone [] = refl
concat-lone (m ∷ ms) = ap (λ r. m ∷ r) (concat-lone ms)

in_order : (ms : Pairs) → IsStrictlySortedBy key_cmp (pair_keys ms) → object_of (members ms) ≡ object ms
in_order ms o =
    let P : Pairs → Type 0 = λ ms. IsStrictlySortedBy key_cmp (pair_keys ms) in
    ap (λ ms. object (pairs ms)) (put_each-end (members ms) [] (subst P (sym (pairs-members ms)) o) tt)
    ∙ ap object (pairs-members ms)

pub object-sure : (names : List (List ℕ)) (ms : Pairs) → IsStrictlySortedBy key_cmp (pair_keys ms)
    → nesting (object ms) ≤ 100 → object_by names (map sure (map lone (members ms))) (sure []) ≡ sure (object ms)
unfolding continued both beside
object-sure names ms o h =
    ap (λ o. capped (continued (both o (sure [])) (λ p. done (trees.joined names (concat p.0) p.1))))
    (all-sure (map lone (members ms)))
    ∙ ap (λ own. capped (sure (object_of own))) (append-nil (concat (map lone (members ms)))
    ∙ concat-lone (members ms))
    ∙ ap (λ j. capped (sure j)) (in_order ms o) ∙ capped-sure (object ms) h

-- ---- trees

not_said : (t : List ℕ) → is_bracketed t ≡ false → text_meaning t ≡ plain t
not_said t h = ap (λ b. if b then meaning_in_brackets t else plain t) h

pub own-sure : (k : List ℕ) (j : Json) (o : Looking Json) → is_copy k ≡ false → o ≡ sure j
    → own_member k o ≡ sure (lone (k, j))
unfolding continued
own-sure k j o h e =
    ap (λ b. if b then pure [] else continued o (λ v. pure ((k, v) ∷ []))) h
    ∙ ap (λ o. continued o (λ v. pure ((k, v) ∷ []))) e

nothing_given : (here : Surroundings) (ms : Pairs) → PairsArePlain ms → given_members ms here ≡ sure []
nothing_given here no_pairs h = refl
nothing_given here (pair k j ms) h =
    ap (λ b. if b then trees.copies j here else given_members ms here) h.0 ∙ nothing_given here ms h.1.1

mutual
  pub itself : (here : Surroundings) (j : Json) → IsPlain j → IsOrderly j → nesting j ≤ 100
      → tree_value j here ≡ sure j
  itself here null h o n = refl
  itself here (bool b) h o n = refl
  itself here (int z) h o n = refl
  itself here (text t) h o n = ap (said_value here t) (not_said t h)
  itself here (array js) h o n =
      ap array_of (items_themselves here js h o (omega arith)) ∙ array-sure js n
  itself here (object ms) h o n =
      (λ i. object_by (pair_keys ms) (members_themselves here ms h o.1 (omega arith) i) (nothing_given here ms h i))
      ∙ object-sure (pair_keys ms) ms o.0 n

  items_themselves : (here : Surroundings) (js : Row) → RowIsPlain js → RowIsOrderly js → row_nesting js ≤ 100
      → row_values js here ≡ map sure (items js)
  items_themselves here no_items h o n = refl
  items_themselves here (item j js) h o n =
      λ i. itself here j h.0 o.0 (omega arith) i ∷ items_themselves here js h.1 o.1 (omega arith) i

  members_themselves : (here : Surroundings) (ms : Pairs) → PairsArePlain ms → PairsAreOrderly ms
      → pairs_nesting ms ≤ 100 → own_members ms here ≡ map sure (map lone (members ms))
  members_themselves here no_pairs h o n = refl
  members_themselves here (pair k j ms) h o n =
      λ i. own-sure k j (tree_value j here) h.0 (itself here j h.1.0 o.0 (omega arith)) i
      ∷ members_themselves here ms h.1.1 o.1 (omega arith) i

sure_in : (w : Look → Option Fact) (o : Looking Json) (j : Json) → o ≡ sure j
    → (value_in w o ≡ Some j) × (reads_in w o ≡ [])
unfolding value_in reads_in
sure_in w o j e = (ap (value_in w) e, ap (reads_in w) e)

pub in_each_world : (here : Surroundings) (j : Json) → IsPlain j → IsOrderly j → nesting j ≤ 100
    → (w : Look → Option Fact) → (value_in w (tree_value j here) ≡ Some j) × (reads_in w (tree_value j here) ≡ [])
in_each_world here j h o n w = sure_in w (tree_value j here) j (itself here j h o n)
