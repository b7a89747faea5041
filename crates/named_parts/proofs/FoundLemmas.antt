-- Parts that are found among parts with one more.
use Rattle.std.proofs.Common.{◌≡◌, ℕ, Bool, true, false, List, [], ◌∷◌, ◌++◌, Some, None, Ordering, Less, Equal}
use Rattle.std.proofs.Common.{Greater, ap}
use Rattle.std.specs.Prelude.{if◌then◌else◌}
use Rattle.std.specs.Ordering.{match_ordering}
use Rattle.arm_value.specs.Json.{key_cmp}
use Rattle.plan_cells.specs.Sites.{first_with}
use Rattle.named_parts.specs.Found.{HasOneMore}
use Rattle.named_parts.specs.Order.{inserted}

module _ {A : Type 0} (y : A) where
  -- the part is first
  first_new : (test : A → Bool) (xs : List A) → test y ≡ true → first_with test (y ∷ xs) ≡ Some y
  first_new test xs e = ap (λ b. if b then Some y else first_with test xs) e

  first_other : (test : A → Bool) (xs : List A) → test y ≡ false → first_with test (y ∷ xs) ≡ first_with test xs
  first_other test xs e = ap (λ b. if b then Some y else first_with test xs) e

  -- another part is first
  later_new : (test : A → Bool) (x : A) (xs zs : List A) (b : Bool) → (if b then Some x else first_with test xs) ≡ None
      → (first_with test xs ≡ None → first_with test zs ≡ Some y)
      → (if b then Some x else first_with test zs) ≡ Some y
  later_new test x xs zs true h r = absurd cc
  later_new test x xs zs false h r = r h

  -- ---- in its place by its name

  module _ (name : A → List ℕ) (test : A → Bool) where
    placed_new : (o : Ordering) (x : A) (xs : List A) → test y ≡ true → first_with test (x ∷ xs) ≡ None
        → (first_with test xs ≡ None → first_with test (inserted name y xs) ≡ Some y)
        → first_with test (match_ordering o (y ∷ x ∷ xs) (y ∷ x ∷ xs) (x ∷ inserted name y xs)) ≡ Some y
    placed_new Less x xs e h r = first_new test (x ∷ xs) e
    placed_new Equal x xs e h r = first_new test (x ∷ xs) e
    placed_new Greater x xs e h r = later_new test x xs (inserted name y xs) (test x) h r

    new : (xs : List A) → test y ≡ true → first_with test xs ≡ None → first_with test (inserted name y xs) ≡ Some y
    new [] e h = first_new test [] e
    new (x ∷ xs) e h = placed_new (key_cmp (name y) (name x)) x xs e h (new xs e)

    placed_other : (o : Ordering) (x : A) (xs : List A) → test y ≡ false
        → first_with test (inserted name y xs) ≡ first_with test xs
        → first_with test (match_ordering o (y ∷ x ∷ xs) (y ∷ x ∷ xs) (x ∷ inserted name y xs))
        ≡ first_with test (x ∷ xs)
    placed_other Less x xs e r = first_other test (x ∷ xs) e
    placed_other Equal x xs e r = first_other test (x ∷ xs) e
    placed_other Greater x xs e r = ap (λ o. if test x then Some x else o) r

    other : (xs : List A) → test y ≡ false → first_with test (inserted name y xs) ≡ first_with test xs
    other [] e = first_other test [] e
    other (x ∷ xs) e = placed_other (key_cmp (name y) (name x)) x xs e (other xs e)

  pub one_inserted : (name : A → List ℕ) (xs : List A) → HasOneMore y xs (inserted name y xs)
  one_inserted name xs = record { new = λ test e h. new name test xs e h; others = λ test e. other name test xs e }

  -- ---- at a place

  module _ (test : A → Bool) (zs : List A) where
    between_new : (xs : List A) → test y ≡ true → first_with test (xs ++ zs) ≡ None
        → first_with test (xs ++ y ∷ zs) ≡ Some y
    between_new [] e h = first_new test zs e
    between_new (x ∷ xs) e h = later_new test x (xs ++ zs) (xs ++ y ∷ zs) (test x) h (between_new xs e)

    between_other : (xs : List A) → test y ≡ false → first_with test (xs ++ y ∷ zs) ≡ first_with test (xs ++ zs)
    between_other [] e = first_other test zs e
    between_other (x ∷ xs) e = ap (λ o. if test x then Some x else o) (between_other xs e)

  -- the part is between others
  pub one_between : (xs zs : List A) → HasOneMore y (xs ++ zs) (xs ++ y ∷ zs)
  one_between xs zs = record {
    new = λ test e h. between_new test zs xs e h;
    others = λ test e. between_other test zs xs e;
  }
