-- The part that belongs to an entry.
use Rattle.std.proofs.Common.{◌≡◌, ℕ, List, Option, Some, None, Result, Ok, Err, refl, sym, subst}
use Rattle.std.specs.Prelude.{IfOk}
use Rattle.std.specs.declared.alloc.AllocError.{AllocError}
use Rattle.foundation.proofs.Options.{if_ok}
use Rattle.file_lists.specs.Found.{IsPart, IsThere, IsNext, grown}

module _ {A B : Type 0} (name : A → List ℕ) (R : B → A → Type 0) where
  -- an entry that declares nothing has none
  pub no_part : (x : Option (List ℕ)) (b : Option B) → b ≡ None → IsPart name R x b None
  no_part None b e = refl
  no_part (Some x) b e = subst (λ o. IsPart name R (Some x) o None) (sym e) refl

  -- and so has one without a name
  pub no_name : (x : Option (List ℕ)) (b : Option B) → x ≡ None → IsPart name R x b None
  no_name x b e = subst (λ o. IsPart name R o b None) (sym e) refl

  is_part : (x : Option (List ℕ)) (b : Option B) (y : List ℕ) (c : B) (a : A) → x ≡ Some y → b ≡ Some c → name a ≡ y
      → R c a → IsPart name R x b (Some a)
  is_part x b y c a e f n r =
      subst (λ o. IsPart name R o b (Some a)) (sym e)
      (subst (λ o. IsPart name R (Some y) o (Some a)) (sym f) (n, r))

  -- the part is made of the name and of what the entry declares
  pub part_there : (x : Option (List ℕ)) (b : Option B) (y : List ℕ) (c : B) → x ≡ Some y → b ≡ Some c
      → (made : Result A AllocError) (o : Result (Option A) AllocError) → IfOk made (λ a. name a ≡ y)
      → IfOk made (R c) → IsThere made o → IfOk o (IsPart name R x b)
  part_there x b y c e f (Ok a) o n r t = subst (λ z. IfOk z (IsPart name R x b)) (sym t) (is_part x b y c a e f n r)
  part_there x b y c e f (Err z) o n r t = subst (λ w. IfOk w (IsPart name R x b)) (sym t) tt

  -- the list with this part
  pub next_part : (x : Option (List ℕ)) (b : Option B) (o : Option A) (xs : List A) → IsPart name R x b o
      → (r : Result (List A) AllocError) → IfOk r (λ ys. ys ≡ grown name o xs) → IfOk r (IsNext name R x b xs)
  next_part x b o xs p r h = if_ok (λ ys. ys ≡ grown name o xs) (IsNext name R x b xs) r h (λ ys e. (o, (p, e)))
