-- What is found first in a list, and lists that are equal item by item.
use Rattle.std.proofs.Common.{◌≡◌, ℕ, zero, suc, ◌+◌, List, [], ◌∷◌, map, Option, Some, None, option_map, refl, sym}
use Rattle.std.proofs.Common.{ap, subst, ◌∙◌, arith}
use Rattle.std.specs.Prelude.{slice_get}
use Rattle.std.proofs.lemmas.Option.{none-some, same_Some, slice_get-map}
use Rattle.resolved_program.specs.Faults.{numbered, first_from, first_in}

module _ {A B : Type 0} (f : A → Option B) where
  -- it is found in an item, where the first item has the number n
  abbrev IsAt : ℕ → List A → ℕ → B → Type 0
  IsAt n xs k y = (i : ℕ) × (k ≡ n + i) × (x : A) × (slice_get xs i ≡ Some x) × (f x ≡ Some y)

  at_first : (n : ℕ) (x : A) (xs : List A) (k : ℕ) (y : B) (o : Option B) → f x ≡ o
      → (first_from f (n + 1) xs ≡ Some (k, y) → IsAt (n + 1) xs k y)
      → numbered n o (first_from f (n + 1) xs) ≡ Some (k, y) → IsAt n (x ∷ xs) k y
  at_first n x xs k y (Some z) p next q =
      let s : (n, z) ≡ (k, y) = same_Some _ _ q in
      (0, omega (arith, ap (λ t. t.0) s), x, refl, p ∙ ap (λ t. Some t.1) s)
  at_first n x xs k y None p next q =
      let r = next q in
      (suc r.0, omega (arith, r.1), r.2, r.3, r.4)

  first_at : (n : ℕ) (xs : List A) (k : ℕ) (y : B) → first_from f n xs ≡ Some (k, y) → IsAt n xs k y
  first_at n [] k y e = absurd (none-some (k, y) e)
  first_at n (x ∷ xs) k y e = at_first n x xs k y (f x) refl (first_at (n + 1) xs k y) e

  -- what is found first is found in the item of that number
  pub first_item : (xs : List A) (k : ℕ) (y : B) → first_in f xs ≡ Some (k, y)
      → (x : A) × (slice_get xs k ≡ Some x) × (f x ≡ Some y)
  first_item xs k y e =
      let r = first_at 0 xs k y e in
      (r.2, subst (λ i. slice_get xs i ≡ Some r.2) (omega (arith, r.1)) r.3, r.4)

  none_first : (n : ℕ) (y : A) (ys : List A) (o : Option B) → f y ≡ o
      → (first_from f (n + 1) ys ≡ None → (k : ℕ) (x : A) → slice_get ys k ≡ Some x → f x ≡ None)
      → numbered n o (first_from f (n + 1) ys) ≡ None → (k : ℕ) (x : A) → slice_get (y ∷ ys) k ≡ Some x → f x ≡ None
  none_first n y ys (Some z) p next q k x s = absurd (none-some (n, z) (sym q))
  none_first n y ys None p next q zero x s = subst (λ v. f v ≡ None) (same_Some _ _ s) p
  none_first n y ys None p next q (suc k) x s = next q k x s

  first_none : (n : ℕ) (xs : List A) → first_from f n xs ≡ None → (k : ℕ) (x : A) → slice_get xs k ≡ Some x
      → f x ≡ None
  first_none n [] e k x s = absurd (none-some x s)
  first_none n (y ∷ ys) e k x s = none_first n y ys (f y) refl (first_none (n + 1) ys) e k x s

  -- where nothing is found, it is found in no item
  pub no_item : (xs : List A) → first_in f xs ≡ None → (k : ℕ) (x : A) → slice_get xs k ≡ Some x → f x ≡ None
  no_item xs e k x s = first_none 0 xs e k x s

-- two lists that are equal through functions: an item of the first has one of the second
pub both_at : {A B C : Type 0} (g : A → C) (h : B → C) (xs : List A) (ys : List B) → map g xs ≡ map h ys → (k : ℕ)
    (x : A) → slice_get xs k ≡ Some x → (y : B) × (slice_get ys k ≡ Some y) × (g x ≡ h y)
both_at {A} {B} {C} g h xs ys e k x s =
    by (slice_get ys k) refl
    (sym (slice_get-map h ys k) ∙ ap (λ zs. slice_get zs k) (sym e) ∙ slice_get-map g xs k ∙ ap (option_map g) s)
  where
    by : (o : Option B) → slice_get ys k ≡ o → option_map h o ≡ Some (g x)
        → (y : B) × (slice_get ys k ≡ Some y) × (g x ≡ h y)
    by None p q = absurd (none-some (g x) q)
    by (Some y) p q = (y, p, sym (same_Some _ _ q))

-- the first in a list of trees
pub first-mapped : {A B C : Type 0} (f : B → Option C) (g : A → B) (k : ℕ) (xs : List A)
    → first_from (λ x. f (g x)) k xs ≡ first_from f k (map g xs)
first-mapped f g k [] = refl
first-mapped f g k (x ∷ xs) = ap (numbered k (f (g x))) (first-mapped f g (k + 1) xs)
