-- Lists that are changed at a place, or at their end.
use Rattle.std.proofs.Common.{◌≡◌, ◌⊎◌, inl, inr, ℕ, zero, suc, List, [], ◌∷◌, ◌++◌, length, Bool, true, false}
use Rattle.std.proofs.Common.{Option, Some, None, refl, ap, arith, map, get_or}
use Rattle.std.specs.Prelude.{slice_get, slice_set, is_some}

-- the item at a number is there as before, or is the one that is set
pub set_cases : {A : Type 0} (xs : List A) (n m : ℕ) (y : A)
    → (slice_get (slice_set xs n y) m ≡ slice_get xs m) ⊎ ((m ≡ n) × (slice_get (slice_set xs n y) m ≡ Some y))
set_cases [] n m y = inl refl
set_cases (x ∷ xs) zero zero y = inr (refl, refl)
set_cases (x ∷ xs) zero (suc m) y = inl refl
set_cases (x ∷ xs) (suc n) zero y = inl refl
set_cases (x ∷ xs) (suc n) (suc m) y = by (set_cases xs n m y)
  where
    by : (slice_get (slice_set xs n y) m ≡ slice_get xs m) ⊎ ((m ≡ n) × (slice_get (slice_set xs n y) m ≡ Some y))
        → (slice_get (slice_set xs n y) m ≡ slice_get xs m)
        ⊎ ((suc m ≡ suc n) × (slice_get (slice_set xs n y) m ≡ Some y))
    by (inl e) = inl e
    by (inr p) = inr (ap suc p.0, p.1)

pub one_longer : {A : Type 0} (xs : List A) (y : A) → length (xs ++ y ∷ []) ≡ suc (length xs)
one_longer [] y = refl
one_longer (x ∷ xs) y = ap suc (one_longer xs y)

-- ---- which items are there

-- the item at a number, where it is there
abbrev pub there_at : {A : Type 0} → Option (Option A) → Bool
there_at None = false
there_at (Some o) = is_some o

pub flag_at : {A : Type 0} (os : List (Option A)) (n : ℕ) → get_or (map is_some os) n false ≡ there_at (slice_get os n)
flag_at [] zero = refl
flag_at [] (suc n) = refl
flag_at (o ∷ os) zero = refl
flag_at (o ∷ os) (suc n) = flag_at os n

pub flags_set : {A : Type 0} (os : List (Option A)) (n : ℕ) (x : A)
    → map is_some (slice_set os n (Some x)) ≡ slice_set (map is_some os) n true
flags_set [] n x = refl
flags_set (o ∷ os) zero x = refl
flags_set (o ∷ os) (suc n) x = ap (λ bs. is_some o ∷ bs) (flags_set os n x)

pub flags_length : {A : Type 0} (os : List (Option A)) → length (map is_some os) ≡ length os
flags_length [] = refl
flags_length (o ∷ os) = ap suc (flags_length os)
