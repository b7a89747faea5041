-- How many parts belong to the first so many entries.
use Rattle.std.proofs.Common.{◌≡◌, ◌<◌, ◌≤◌, ◌+◌, ℕ, zero, suc, Bool, true, false, List, [], ◌∷◌, length, Option, Some}
use Rattle.std.proofs.Common.{None, Ordering, Less, Equal, Greater, ◌⊎◌, inl, inr, refl, ap, arith}
use Rattle.std.specs.Ordering.{match_ordering}
use Rattle.std.specs.Prelude.{is_some}
use Rattle.arm_value.specs.Json.{key_cmp}
use Rattle.named_parts.specs.Order.{inserted}
use Rattle.file_lists.specs.Found.{one_if, declared_before, IsPart}

-- ---- one part more

module _ {A : Type 0} (name : A → List ℕ) (y : A) where
  size_placed : (o : Ordering) (x : A) (xs : List A) → length (inserted name y xs) ≡ suc (length xs)
      → length (match_ordering o (y ∷ x ∷ xs) (y ∷ x ∷ xs) (x ∷ inserted name y xs)) ≡ suc (suc (length xs))
  size_placed Less x xs e = refl
  size_placed Equal x xs e = refl
  size_placed Greater x xs e = ap suc e

  pub size_inserted : (xs : List A) → length (inserted name y xs) ≡ suc (length xs)
  size_inserted [] = refl
  size_inserted (x ∷ xs) = size_placed (key_cmp (name y) (name x)) x xs (size_inserted xs)

pub none_yet : 0 ≤ 0
none_yet = omega arith

-- what has a part declares something
pub is_declared : {A B : Type 0} (name : A → List ℕ) (R : B → A → Type 0) (x : Option (List ℕ)) (b : Option B) (a : A)
    → IsPart name R x b (Some a) → is_some b ≡ true
is_declared name R None b a p = absurd cc
is_declared name R (Some x) None a p = absurd cc
is_declared name R (Some x) (Some b) a p = refl

-- ---- how many declare something

module _ {B : Type 0} (by : ℕ → Option B) where
  next_before : (k : ℕ) → declared_before by (k + 1) ≡ declared_before by k + one_if (is_some (by k))
  next_before k = ap (declared_before by) (next k)
    where
      next : (k : ℕ) → k + 1 ≡ suc k
      next k = omega arith

  pub not_more : {A : Type 0} (k : ℕ) (xs ys : List A) → ys ≡ xs → length xs ≤ declared_before by k
      → length ys ≤ declared_before by (k + 1)
  not_more k xs ys e h = let a = ap length e in let b = next_before k in omega (arith, a, b, h)

  pub one_more_at : {A : Type 0} (k : ℕ) (xs ys : List A) → is_some (by k) ≡ true → length ys ≡ suc (length xs)
      → length xs ≤ declared_before by k → length ys ≤ declared_before by (k + 1)
  one_more_at k xs ys d e h =
      let a = next_before k in let b : one_if (is_some (by k)) ≡ 1 = ap one_if d in omega (arith, a, b, e, h)

  at_most_one : (b : Bool) → one_if b ≤ 1
  at_most_one true = omega arith
  at_most_one false = omega arith

  few_before : (k : ℕ) → declared_before by k ≤ k
  few_before zero = omega arith
  few_before (suc k) = let a = few_before k in let b = at_most_one (is_some (by k)) in omega (arith, a, b)

  -- ---- past the last that declares something

  up_to : (m k : ℕ) → k ≤ m + 1 → (k ≤ m) ⊎ (k ≡ suc m)
  up_to m zero l = inl (omega arith)
  up_to zero (suc zero) l = inr refl
  up_to zero (suc (suc k)) l = absurd (omega (arith, l))
  up_to (suc m) (suc k) l = next (up_to m k (omega (arith, l)))
    where
      next : (k ≤ m) ⊎ (k ≡ suc m) → (suc k ≤ suc m) ⊎ (suc k ≡ suc (suc m))
      next (inl h) = inl (omega (arith, h))
      next (inr h) = inr (ap suc h)

  grown_by : (m k : ℕ) → (k ≤ m → declared_before by k ≤ declared_before by m) → (k ≤ m) ⊎ (k ≡ suc m)
      → declared_before by k ≤ declared_before by (suc m)
  grown_by m k before (inl l) = let a = before l in omega (arith, a)
  grown_by m k before (inr e) = let a = ap (declared_before by) e in omega (arith, a)

  before_later : (m k : ℕ) → k ≤ m → declared_before by k ≤ declared_before by m
  before_later zero zero l = omega arith
  before_later zero (suc k) l = absurd (omega (arith, l))
  before_later (suc m) k l = grown_by m k (before_later m k) (up_to m k (omega (arith, l)))

  side : (k m : ℕ) → (m ≤ k) ⊎ (k < m)
  side k zero = inl (omega arith)
  side zero (suc m) = inr (omega arith)
  side (suc k) (suc m) = next (side k m)
    where
      next : (m ≤ k) ⊎ (k < m) → (suc m ≤ suc k) ⊎ (suc k < suc m)
      next (inl l) = inl (omega (arith, l))
      next (inr l) = inr (omega (arith, l))

  module _ (m : ℕ) (none : (n : ℕ) → m ≤ n → by n ≡ None) where
    step : (k : ℕ) → declared_before by k ≤ declared_before by m → (m ≤ k) ⊎ (k < m)
        → declared_before by (suc k) ≤ declared_before by m
    step k h (inl l) =
        let a : one_if (is_some (by k)) ≡ 0 = ap (λ o. one_if (is_some o)) (none k l) in omega (arith, a, h)
    step k h (inr l) = before_later m (suc k) (omega (arith, l))

    -- where nothing is declared from a number on, no more are declared than before it
    pub all_before : (k : ℕ) → declared_before by k ≤ declared_before by m
    all_before zero = omega arith
    all_before (suc k) = step k (all_before k) (side k m)

    pub at_most : {A : Type 0} (k : ℕ) (xs : List A) → length xs ≤ declared_before by k
        → length xs ≤ declared_before by m
    at_most k xs h = let a = all_before k in omega (arith, a, h)

    -- and no more than numbers before it
    pub at_most_numbers : {A : Type 0} (k : ℕ) (xs : List A) → length xs ≤ declared_before by k → length xs ≤ m
    at_most_numbers k xs h = let a = all_before k in let b = few_before m in omega (arith, a, b, h)
