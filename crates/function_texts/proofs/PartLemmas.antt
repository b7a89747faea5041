-- The first and the last place of a part in a text.
use Rattle.std.proofs.Common.{◌≡◌, ◌<◌, ◌≤◌, ◌+◌, ◌-◌, ℕ, zero, suc, Bool, true, false, List, [], ◌∷◌, length, drop}
use Rattle.std.proofs.Common.{Option, Some, None, refl, ap, ap₂, sym, ◌∙◌, arith, subst, ◌⊎◌, inl, inr}
use Rattle.std.specs.Prelude.{◌==◌}
use Rattle.std.proofs.lemmas.Bool.{cases_lt}
use Rattle.function_lists.specs.Items.{or_found, here}
use Rattle.function_texts.specs.Places.{begins, first_from, last_from}
use Rattle.function_texts.specs.Search.{IsLongest, HasNotBegun, IsFirst, IsLastBegun}
use Rattle.std.proofs.lemmas.List.{length-drop}
use Rattle.foundation.proofs.Comparisons.{eq_of_true, ne_of_false}
use Rattle.function_texts.proofs.PlaceLemmas.{no_room}
use Rattle.function_texts.proofs.SearchLemmas.{begun_at, not_begun, nowhere_more, nowhere_left}

begins-nil : (s : List ℕ) → begins [] s ≡ true
unfolding begins
begins-nil s = refl

-- ---- the first place

first-none : (i : ℕ) (p s : List ℕ) → ((place : ℕ) → place ≤ length s → begins p (drop place s) ≡ false)
    → first_from i p s ≡ None
unfolding first_from
first-none i p [] h = ap (λ b. here b i) (h 0 (omega arith))
first-none i p (c ∷ cs) h =
    ap₂ (λ b o. or_found (here b i) o) (h 0 (omega arith))
    (first-none (i + 1) p cs (λ place l. h (suc place) (omega arith)))

first-some : (i : ℕ) (p s : List ℕ) (q : ℕ) → q ≤ length s → begins p (drop q s) ≡ true
    → ((place : ℕ) → place < q → begins p (drop place s) ≡ false) → first_from i p s ≡ Some (i + q)
unfolding first_from
first-some i p [] zero l t h = let count : i ≡ i + 0 = omega arith in ap (λ b. here b i) t ∙ ap Some count
first-some i p [] (suc q) l t h = absurd (omega arith)
first-some i p (c ∷ cs) zero l t h = let count : i ≡ i + 0 = omega arith in
    ap (λ b. or_found (here b i) (first_from (i + 1) p cs)) t ∙ ap Some count
first-some i p (c ∷ cs) (suc q) l t h =
    let count : i + 1 + q ≡ i + suc q = omega arith in
    ap₂ (λ b o. or_found (here b i) o) (h 0 (omega arith))
    (first-some (i + 1) p cs q (omega arith) t (λ place k. h (suc place) (omega arith))) ∙ ap Some count

pub first_is : (p s : List ℕ) (found : Option ℕ) → IsFirst p s found → found ≡ first_from 0 p s
first_is p s None h = sym (first-none 0 p s h)
first_is p s (Some q) h = let count : 0 + q ≡ q = omega arith in
    sym (first-some 0 p s q h.0 h.1 h.2 ∙ ap Some count)

pub first-empty : (p s : List ℕ) → length p ≡ 0 → IsFirst p s (Some 0)
first-empty [] s e = (omega arith, begins-nil s, λ place l. absurd (omega arith))
first-empty (c ∷ cs) s e = absurd (omega arith)

pub first_found : (p s : List ℕ) (i n : ℕ) → HasNotBegun p s i → i < length s → IsLongest p s (i + 1) (length p) n
    → n ≡ length p → IsFirst p s (Some (i + 1 - n))
first_found p s i n before l long e =
    let whole : IsLongest p s (i + 1) (length p) (length p) = subst (IsLongest p s (i + 1) (length p)) e long in
    subst (λ m. IsFirst p s (Some (i + 1 - m))) (sym e) (
      omega arith,
      begun_at p s (i + 1) whole.ends (omega arith),
      λ place k. before.nowhere place
          (omega (arith, whole.ends.room)),
    )

pub first_missed : (p s : List ℕ) (i : ℕ) → HasNotBegun p s i → length s ≤ i → IsFirst p s None
first_missed p s i before l = nowhere_left p s i before l

-- ---- the last place

last-none : (i : ℕ) (p s : List ℕ) → ((place : ℕ) → place ≤ length s → begins p (drop place s) ≡ false)
    → last_from i p s ≡ None
unfolding last_from
last-none i p [] h = ap (λ b. here b i) (h 0 (omega arith))
last-none i p (c ∷ cs) h =
    ap₂ (λ o b. or_found o (here b i)) (last-none (i + 1) p cs (λ place l. h (suc place) (omega arith)))
    (h 0 (omega arith))

last-some : (i : ℕ) (p s : List ℕ) (q : ℕ) → q ≤ length s → begins p (drop q s) ≡ true
    → ((place : ℕ) → q < place → place ≤ length s → begins p (drop place s) ≡ false)
    → last_from i p s ≡ Some (i + q)
unfolding last_from
last-some i p [] zero l t h = let count : i ≡ i + 0 = omega arith in ap (λ b. here b i) t ∙ ap Some count
last-some i p [] (suc q) l t h = absurd (omega arith)
last-some i p (c ∷ cs) zero l t h =
    let count : i ≡ i + 0 = omega arith in
    ap₂ (λ o b. or_found o (here b i)) (last-none (i + 1) p cs
    (λ place k. h (suc place) (omega arith) (omega arith))) t ∙ ap Some count
last-some i p (c ∷ cs) (suc q) l t h =
    let count : i + 1 + q ≡ i + suc q = omega arith in
    ap (λ o. or_found o (here (begins p (c ∷ cs)) i))
    (last-some (i + 1) p cs q (omega arith) t (λ place k m. h (suc place) (omega arith) (omega arith)))
    ∙ ap Some count

pub last_is : (p s : List ℕ) (i : ℕ) (found : Option ℕ) → IsLastBegun p s i found → length s ≤ i → i ≤ length s
    → found ≡ last_from 0 p s
last_is p s i None h l k = sym (last-none 0 p s (nowhere_left p s i h l))
last_is p s i (Some q) h l k =
    let count : 0 + q ≡ q = omega arith in
    sym (last-some 0 p s q (omega (arith, h.0)) h.1
    (λ place m n. by_order place m n (cases_lt (length s) (place + length p))) ∙ ap Some count)
  where
    by_order : (place : ℕ) → q < place → place ≤ length s
        → (length s < place + length p) ⊎ (place + length p ≤ length s) → begins p (drop place s) ≡ false
    by_order place m n (inl short) = sym (no_room p (drop place s) (omega (arith, length-drop place s)))
    by_order place m n (inr fits) = h.2 place m (omega arith)

pub last-empty : (p s : List ℕ) → length p ≡ 0 → IsLastBegun p s (length s) (Some (length s))
last-empty [] s e = (omega arith, begins-nil (drop (length s) s), λ place l k. absurd (omega arith))
last-empty (c ∷ cs) s e = absurd (omega arith)

last_kept : (p s : List ℕ) (i n : ℕ) (found : Option ℕ) → IsLastBegun p s i found
    → IsLongest p s (i + 1) (length p) n → n < length p → IsLastBegun p s (i + 1) found
last_kept p s i n None before long l = nowhere_more p s i n before long l
last_kept p s i n (Some q) before long l =
    (omega (arith, before.0), before.1, λ place m k. by_order place m k (cases_lt i (place + length p)))
  where
    by_order : (place : ℕ) → q < place → place + length p ≤ i + 1 → (i < place + length p) ⊎ (place + length p ≤ i)
        → begins p (drop place s) ≡ false
    by_order place m k (inl new) = not_begun p s (i + 1) n place long l (omega arith)
    by_order place m k (inr old) = before.2 place m old

last_found : (p s : List ℕ) (i n : ℕ) → i < length s → IsLongest p s (i + 1) (length p) n → n ≡ length p
    → IsLastBegun p s (i + 1) (Some (i + 1 - n))
last_found p s i n l long e =
    let whole : IsLongest p s (i + 1) (length p) (length p) = subst (IsLongest p s (i + 1) (length p)) e long in
    subst (λ m. IsLastBegun p s (i + 1) (Some (i + 1 - m))) (sym e) (
      omega (arith, whole.ends.room),
      begun_at p s (i + 1) whole.ends (omega arith),
      λ place m k. absurd
          (omega (arith, whole.ends.room)),
    )

pub last_more : (p s : List ℕ) (i n : ℕ) (found next : Option ℕ) → IsLastBegun p s i found → i < length s
    → IsLongest p s (i + 1) (length p) n
    → next ≡ or_found (here (n == length p) (i + 1 - n)) found → IsLastBegun p s (i + 1) next
last_more p s i n found next before l long e =
    subst (IsLastBegun p s (i + 1)) (sym e) (by_test (n == length p) refl)
  where
    by_test : (b : Bool) → (n == length p) ≡ b → IsLastBegun p s (i + 1) (or_found (here b (i + 1 - n)) found)
    by_test true t = last_found p s i n l long (eq_of_true n (length p) t)
    by_test false t =
        let different : n ≡ length p → ⊥ = ne_of_false n (length p) t in
        last_kept p s i n found before long (omega (arith, long.within))
