-- Members of different names are put among others in any order.
use Rattle.std.proofs.Common.{◌≡◌, ◌≢◌, ℕ, List, [], ◌∷◌, Ordering, Less, Equal, Greater, encode_utf8_all}
use Rattle.std.proofs.Common.{refl, sym, ap, ◌∙◌, subst}
use Rattle.std.proofs.lemmas.Cmp.{nat_list_cmp_total}
use Rattle.std.specs.Ordering.{ordering_reverse, match_ordering}
use Rattle.arm_value.specs.Json.{Json, Member, key_cmp, put}
use Rattle.arm_value.proofs.SetLemmas.{equal_keys}

abbrev cmp_reversed : (k l : List ℕ) (o : Ordering) → key_cmp k l ≡ o → key_cmp l k ≡ ordering_reverse o
cmp_reversed k l o e = nat_list_cmp_total.antisymm (encode_utf8_all l) (encode_utf8_all k) ∙ ap ordering_reverse e

below_below : (k l m : List ℕ) → key_cmp k l ≡ Less → key_cmp l m ≡ Less → key_cmp k m ≡ Less
below_below k l m e f =
    nat_list_cmp_total.trans (encode_utf8_all k) (encode_utf8_all l) (encode_utf8_all m) e f

-- one step of `put`, by how its key compares
abbrev step : Ordering → List ℕ → Json → Member → List Member → List Member
step o k j m ms = match_ordering o ((k, j) ∷ m ∷ ms) ((k, j) ∷ ms) (m ∷ put k j ms)

first_above : (k : List ℕ) (j : Json) (m : Member) (ms : List Member) → key_cmp k m.0 ≡ Less
    → put k j (m ∷ ms) ≡ (k, j) ∷ m ∷ ms
first_above k j m ms e = ap (λ o. step o k j m ms) e

first_below : (k : List ℕ) (j : Json) (m : Member) (ms : List Member) → key_cmp k m.0 ≡ Greater
    → put k j (m ∷ ms) ≡ m ∷ put k j ms
first_below k j m ms e = ap (λ o. step o k j m ms) e

first_same : (k : List ℕ) (j : Json) (m : Member) (ms : List Member) → key_cmp k m.0 ≡ Equal
    → put k j (m ∷ ms) ≡ (k, j) ∷ ms
first_same k j m ms e = ap (λ o. step o k j m ms) e

module _ (k l : List ℕ) (i j : Json) (below : key_cmp k l ≡ Less) where
  above : key_cmp l k ≡ Greater
  above = cmp_reversed k l Less below

  -- the greater one is put after the lesser one, which comes first
  greater_after : (ms : List Member) → put l j ((k, i) ∷ ms) ≡ (k, i) ∷ put l j ms
  greater_after ms = first_below l j (k, i) ms above

  by_order : (o p : Ordering) (m : Member) (ms : List Member) → key_cmp k m.0 ≡ o → key_cmp l m.0 ≡ p
      → put l j (put k i ms) ≡ put k i (put l j ms)
      → put l j (put k i (m ∷ ms)) ≡ put k i (put l j (m ∷ ms))
  by_order Less Less m ms e f h =
      ap (put l j) (first_above k i m ms e) ∙ greater_after (m ∷ ms)
      ∙ ap (λ (r : List Member). (k, i) ∷ r) (first_above l j m ms f)
      ∙ sym (ap (put k i) (first_above l j m ms f) ∙ first_above k i (l, j) (m ∷ ms) below)
  by_order Less Equal m ms e f h =
      ap (put l j) (first_above k i m ms e) ∙ greater_after (m ∷ ms)
      ∙ ap (λ (r : List Member). (k, i) ∷ r) (first_same l j m ms f)
      ∙ sym (ap (put k i) (first_same l j m ms f) ∙ first_above k i (l, j) ms below)
  by_order Less Greater m ms e f h =
      ap (put l j) (first_above k i m ms e) ∙ greater_after (m ∷ ms)
      ∙ ap (λ (r : List Member). (k, i) ∷ r) (first_below l j m ms f)
      ∙ sym (ap (put k i) (first_below l j m ms f) ∙ first_above k i m (put l j ms) e)
  by_order Equal Less m ms e f h = absurd (no_less (subst (λ x. key_cmp l x ≡ Less) (sym (equal_keys k m.0 e)) f))
    where
      no_less : key_cmp l k ≡ Less → ⊥
      no_less g = let both : Greater ≡ Less = sym above ∙ g in cc
  by_order Equal Equal m ms e f h = absurd (no_same (subst (λ x. key_cmp l x ≡ Equal) (sym (equal_keys k m.0 e)) f))
    where
      no_same : key_cmp l k ≡ Equal → ⊥
      no_same g = let both : Greater ≡ Equal = sym above ∙ g in cc
  by_order Equal Greater m ms e f h =
      ap (put l j) (first_same k i m ms e) ∙ greater_after ms
      ∙ sym (ap (put k i) (first_below l j m ms f) ∙ first_same k i m (put l j ms) e)
  by_order Greater Less m ms e f h = absurd (no_greater (below_below k l m.0 below f))
    where
      no_greater : key_cmp k m.0 ≡ Less → ⊥
      no_greater g = let both : Greater ≡ Less = sym e ∙ g in cc
  by_order Greater Equal m ms e f h = absurd (no_greater (subst (λ x. key_cmp k x ≡ Less) (equal_keys l m.0 f) below))
    where
      no_greater : key_cmp k m.0 ≡ Less → ⊥
      no_greater g = let both : Greater ≡ Less = sym e ∙ g in cc
  by_order Greater Greater m ms e f h =
      ap (put l j) (first_below k i m ms e) ∙ first_below l j m (put k i ms) f
      ∙ ap (λ (r : List Member). m ∷ r) h
      ∙ sym (ap (put k i) (first_below l j m ms f) ∙ first_below k i m (put l j ms) e)

  in_order_of_names : (ms : List Member) → put l j (put k i ms) ≡ put k i (put l j ms)
  in_order_of_names [] = greater_after [] ∙ sym (first_above k i (l, j) [] below)
  in_order_of_names (m ∷ ms) = by_order (key_cmp k m.0) (key_cmp l m.0) m ms refl refl (in_order_of_names ms)

by_names : (o : Ordering) (k l : List ℕ) (i j : Json) (ms : List Member) → key_cmp k l ≡ o → k ≢ l
    → put l j (put k i ms) ≡ put k i (put l j ms)
by_names Less k l i j ms e h = in_order_of_names k l i j e ms
by_names Equal k l i j ms e h = absurd (h (equal_keys k l e))
by_names Greater k l i j ms e h = sym (in_order_of_names l k j i (cmp_reversed k l Greater e) ms)

-- the order in which two members of different names are put does not matter
pub puts_commute : (k l : List ℕ) (i j : Json) (ms : List Member) → k ≢ l
    → put l j (put k i ms) ≡ put k i (put l j ms)
puts_commute k l i j ms h = by_names (key_cmp k l) k l i j ms refl h
