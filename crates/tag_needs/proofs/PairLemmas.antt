-- Which pairs are listed.
use Rattle.std.proofs.Common.{◌≡◌, ◌↔◌, ◌⊎◌, inl, inr, ℕ, zero, suc, ◌+◌, ◌-◌, ◌≤◌, Bool, true, false, ◌||◌, List, []}
use Rattle.std.proofs.Common.{◌∷◌, ◌++◌, Some, None, refl, sym, ap, subst, ◌∙◌, arith}
use Rattle.std.specs.Prelude.{nat_eq, slice_get}
use Rattle.std.specs.List.{list_any}
use Rattle.std.proofs.lemmas.Bool.{or_cases, or_right}
use Rattle.foundation.proofs.Comparisons.{eq_of_true}
use Rattle.tag_needs.specs.Tags.{Tag, shares, needed, pairs_of, needs_from, IsListed}
use Rattle.tag_needs.proofs.TagLemmas.{shares_at, needed_shares, shares_from, shares_to, IsAsked}
use Rattle.foundation.proofs.Options.{same_some}

listed_front : (p : ℕ × ℕ) (xs ys : List (ℕ × ℕ)) → IsListed p xs → IsListed p (xs ++ ys)
listed_front p [] ys h = elim h [ ]
listed_front p (x ∷ xs) ys (inl e) = inl e
listed_front p (x ∷ xs) ys (inr h) = inr (listed_front p xs ys h)

listed_back : (p : ℕ × ℕ) (xs ys : List (ℕ × ℕ)) → IsListed p ys → IsListed p (xs ++ ys)
listed_back p [] ys h = h
listed_back p (x ∷ xs) ys h = inr (listed_back p xs ys h)

listed_either : (p : ℕ × ℕ) (xs ys : List (ℕ × ℕ)) → IsListed p (xs ++ ys) → IsListed p xs ⊎ IsListed p ys
listed_either p [] ys h = inr h
listed_either p (x ∷ xs) ys (inl e) = inl (inl e)
listed_either p (x ∷ xs) ys (inr h) =
    elim (listed_either p xs ys h) [ inl k ↦ inl (inr k) | inr k ↦ inr k ]

number_itself : (i j : ℕ) → i ≡ j → nat_eq j i ≡ true
number_itself i j h = grind (arith, h)

pair_listed : (i j : ℕ) (js : List ℕ) → list_any (nat_eq j) js ≡ true → IsListed (i, j) (pairs_of i js)
pair_listed i j [] h = let no : false ≡ true = h in absurd (cc)
pair_listed i j (k ∷ js) h =
    elim (or_cases (nat_eq j k) (list_any (nat_eq j) js) h) [
      | inl e ↦ inl (ap (λ (n : ℕ). (i, n)) (sym (eq_of_true j k e)))
      | inr e ↦ inr (pair_listed i j js e)
    ]

number_listed : (n j i : ℕ) (js : List ℕ) → IsListed (n, j) (pairs_of i js) → (i ≡ n) × (list_any (nat_eq j) js ≡ true)
number_listed n j i [] h = elim h [ ]
number_listed n j i (k ∷ js) (inl e) = (
  ap (λ (p : ℕ × ℕ). p.0) e,
  ap (λ b. b || list_any (nat_eq j) js) (number_itself k j (ap (λ (p : ℕ × ℕ). p.1) e)),
)
number_listed n j i (k ∷ js) (inr h) =
    let r = number_listed n j i js h in (r.0, or_right (nat_eq j k) (list_any (nat_eq j) js) r.1)

from_first : (n j k : ℕ) (asks tags : List (List Tag)) → IsListed (n, j) (needs_from k asks tags) → k ≤ n
from_first n j k [] tags h = elim h [ ]
from_first n j k (a ∷ rest) tags h =
    elim (listed_either (n, j) (pairs_of k (needed a 0 tags)) (needs_from (suc k) rest tags) h) [
      | inl e ↦ (let r = number_listed n j k (needed a 0 tags) e in let q = r.0 in omega (arith, q))
      | inr e ↦ (let r = from_first n j (suc k) rest tags e in omega (arith, r))
    ]

listed_at : (k : ℕ) (asks tags : List (List Tag)) (i j : ℕ) (a t : List Tag) → slice_get asks i ≡ Some a
    → slice_get tags j ≡ Some t → shares a t ≡ true → IsListed (k + i, j) (needs_from k asks tags)
listed_at k [] tags i j a t e h s = let no : None ≡ Some a = e in absurd (cc)
listed_at k (x ∷ rest) tags zero j a t e h s =
    let same : x ≡ a = same_some e in
    let there : list_any (nat_eq j) (needed x 0 tags) ≡ true =
    needed_shares x j 0 tags
    ∙ ap (λ (n : ℕ). shares_at x n 0 tags) (let z : j ≡ 0 + j = omega arith in z)
    ∙ shares_to x j 0 tags t h (ap (λ y. shares y t) same ∙ s) in
    listed_front (k + 0, j) (pairs_of k (needed x 0 tags)) (needs_from (suc k) rest tags)
    (subst (λ (n : ℕ). IsListed (n, j) (pairs_of k (needed x 0 tags))) (let z : k ≡ k + 0 = omega arith in z)
    (pair_listed k j (needed x 0 tags) there))
listed_at k (x ∷ rest) tags (suc i) j a t e h s =
    listed_back (k + suc i, j) (pairs_of k (needed x 0 tags)) (needs_from (suc k) rest tags)
    (subst (λ (n : ℕ). IsListed (n, j) (needs_from (suc k) rest tags))
    (let z : suc k + i ≡ k + suc i = omega arith in z) (listed_at (suc k) rest tags i j a t e h s))

shared_at : (k : ℕ) (asks tags : List (List Tag)) (i j : ℕ) (a t : List Tag) → slice_get asks i ≡ Some a
    → slice_get tags j ≡ Some t → IsListed (k + i, j) (needs_from k asks tags) → shares a t ≡ true
shared_at k [] tags i j a t e h l = elim l [ ]
shared_at k (x ∷ rest) tags zero j a t e h l =
    elim (listed_either (k + 0, j) (pairs_of k (needed x 0 tags)) (needs_from (suc k) rest tags) l) [
      | inl p ↦ (
          let r = number_listed (k + 0) j k (needed x 0 tags) p in
          let asked : IsAsked x j 0 tags = shares_from x j 0 tags (sym (needed_shares x j 0 tags) ∙ r.1) in
          let same : asked.tags_there ≡ t =
          same_some (sym asked.there ∙ ap (slice_get tags) (let z : j - 0 ≡ j = omega arith in z) ∙ h) in
          ap (λ y. shares y t) (sym (same_some e)) ∙ ap (shares x) (sym same) ∙ asked.share
          )
      | inr p ↦ absurd (let r = from_first (k + 0) j (suc k) rest tags p in omega (arith, r))
    ]
shared_at k (x ∷ rest) tags (suc i) j a t e h l =
    elim (listed_either (k + suc i, j) (pairs_of k (needed x 0 tags)) (needs_from (suc k) rest tags) l) [
      | inl p ↦ absurd (let r = number_listed (k + suc i) j k (needed x 0 tags) p in let q = r.0 in omega (arith, q))
      | inr p ↦ shared_at (suc k) rest tags i j a t e h
          (subst (λ (n : ℕ). IsListed (n, j) (needs_from (suc k) rest tags))
          (let z : k + suc i ≡ suc k + i = omega arith in z) p)
    ]

pub listed_where_shared : (asks tags : List (List Tag)) (i j : ℕ) (a t : List Tag) → slice_get asks i ≡ Some a
    → slice_get tags j ≡ Some t → (shares a t ≡ true) ↔ IsListed (i, j) (needs_from 0 asks tags)
listed_where_shared asks tags i j a t e h =
    let z : 0 + i ≡ i = omega arith in (
      λ s. subst (λ (n : ℕ). IsListed (n, j) (needs_from 0 asks tags)) z (listed_at 0 asks tags i j a t e h s),
      λ l. shared_at 0 asks tags i j a t e h (subst (λ (n : ℕ). IsListed (n, j) (needs_from 0 asks tags)) (sym z) l),
    )
