-- Lists that grow at their end, and places in them.
use Rattle.std.proofs.Common.{◌≡◌, ◌⊎◌, inl, inr, ◌<◌, ℕ, zero, suc, List, [], ◌∷◌, ◌++◌, length, Some}
use Rattle.std.proofs.Common.{refl, ap, arith}
use Rattle.std.specs.Prelude.{slice_get}
use Rattle.std.proofs.lemmas.Option.{none-some, same_Some}

-- what is at a place of the first list is there in the second
abbrev pub Grows : {A : Type 0} → List A → List A → Type 0
Grows {A} xs ys = (m : ℕ) (x : A) → slice_get xs m ≡ Some x → slice_get ys m ≡ Some x

pub grows_by : {A : Type 0} (xs zs : List A) → Grows xs (xs ++ zs)
grows_by [] zs m x e = absurd (none-some x e)
grows_by (y ∷ xs) zs zero x e = e
grows_by (y ∷ xs) zs (suc m) x e = grows_by xs zs m x e

pub last_or : {A : Type 0} (xs : List A) (x : A) (m : ℕ) (y : A) → slice_get (xs ++ x ∷ []) m ≡ Some y
    → (slice_get xs m ≡ Some y) ⊎ ((m ≡ length xs) × (x ≡ y))
last_or [] x zero y e = inr (refl, same_Some x y e)
last_or [] x (suc m) y e = absurd (none-some y e)
last_or (z ∷ xs) x zero y e = inl e
last_or (z ∷ xs) x (suc m) y e =
    elim (last_or xs x m y e) [
      | inl h ↦ inl h
      | inr h ↦ inr (ap suc h.0, h.1)
    ]

-- an item at a place
pub record There {A : Type 0} (xs : List A) (n : ℕ) : Type 0 where
  pub item : A
  pub is : slice_get xs n ≡ Some item

pub there : {A : Type 0} (xs : List A) (n : ℕ) → n < length xs → There xs n
there [] n h = absurd (omega (arith, h))
there (x ∷ xs) zero h = record { item = x; is = refl }
there (x ∷ xs) (suc n) h = let t = there xs n (omega (arith, h)) in record { item = t.item; is = t.is }
