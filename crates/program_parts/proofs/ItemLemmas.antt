-- Lists whose items are those of their numbers.
use Rattle.std.proofs.Common.{◌≡◌, ◌≤◌, ◌+◌, ℕ, zero, suc, List, [], ◌∷◌, ◌++◌, length, Some, refl, sym, ap, ◌∙◌, subst}
use Rattle.std.proofs.Common.{arith}
use Rattle.std.specs.Prelude.{drop, slice_get}
use Rattle.foundation.proofs.Options.{same_some}
use Rattle.program_parts.specs.Parts.{AllFrom, HasLast}

module _ {A : Type 0} (R : ℕ → A → Type 0) where
  one_more : (k : ℕ) (xs : List A) (x : A) → AllFrom R k xs → R (k + length xs) x → AllFrom R k (xs ++ x ∷ [])
  one_more k [] x h r =
      let none : k + 0 ≡ k = omega arith in
      (subst (λ n. R n x) none r, tt)
  one_more k (y ∷ xs) x h r =
      let same : k + suc (length xs) ≡ suc k + length xs = omega arith in
      (h.0, one_more (suc k) xs x h.1 (subst (λ n. R n x) same r))

  -- the first items with the next one
  pub with_next : (xs all : List A) (x : A) → AllFrom R 0 xs → R (length xs) x → HasLast xs x all → AllFrom R 0 all
  with_next xs all x h r e =
      let none : length xs ≡ 0 + length xs = omega arith in
      subst (AllFrom R 0) (sym e) (one_more 0 xs x h (subst (λ n. R n x) none r))

  found_from : (k : ℕ) (xs : List A) → AllFrom R k xs → (n : ℕ) (x : A) → slice_get xs n ≡ Some x → R (k + n) x
  found_from k [] h n x e = absurd cc
  found_from k (y ∷ xs) h zero x e =
      let none : k ≡ k + 0 = omega arith in
      subst (λ m. R m x) none (subst (R k) (same_some e) h.0)
  found_from k (y ∷ xs) h (suc n) x e =
      let same : suc k + n ≡ k + suc n = omega arith in
      subst (λ m. R m x) same (found_from (suc k) xs h.1 n x e)

  -- the item of a number
  pub found_at : (xs : List A) → AllFrom R 0 xs → (n : ℕ) (x : A) → slice_get xs n ≡ Some x → R n x
  found_at xs h n x e =
      let none : 0 + n ≡ n = omega arith in
      subst (λ m. R m x) none (found_from 0 xs h n x e)

-- so many of these items so far, of which that is said
pub record SoFar {A : Type 0} (P : List A → Type 0) (xs : List A) (n all : ℕ) : Type 0 where
  pub most : n ≤ all
  pub count : length xs ≡ n
  pub each : P xs

-- the item that comes next
pub next_is : {A : Type 0} (xs : List A) (n : ℕ) (x : A) (rest : List A) → drop n xs ≡ x ∷ rest
    → slice_get xs n ≡ Some x
next_is [] zero x rest e = absurd cc
next_is [] (suc n) x rest e = absurd cc
next_is (y ∷ xs) zero x rest e = ap (λ l. slice_get l 0) e
next_is (y ∷ xs) (suc n) x rest e = next_is xs n x rest e

size : {A : Type 0} (xs : List A) (x : A) → length (xs ++ x ∷ []) ≡ suc (length xs)
size [] x = refl
size (y ∷ xs) x = ap suc (size xs x)

pub more_by_one : {A : Type 0} (xs all : List A) (x : A) → HasLast xs x all → length all ≡ suc (length xs)
more_by_one xs all x e = ap length e ∙ size xs x
