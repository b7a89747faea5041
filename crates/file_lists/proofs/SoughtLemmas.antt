-- The first entry that passes a test.
use Rattle.std.proofs.Common.{◌≡◌, ◌+◌, ℕ, zero, suc, Bool, true, false, true≢false, List, [], ◌∷◌, Option, Some, None}
use Rattle.std.proofs.Common.{bytes_eq, refl, sym, ap, ◌∙◌, subst, arith}
use Rattle.std.specs.Prelude.{position, option_map, slice_get, if◌then◌else◌}
use Rattle.std.specs.List.{position_from}
use Rattle.std.proofs.lemmas.Iterator.Adapters.{position_from-zero}
use Rattle.std.proofs.lemmas.Slice.Eq.{bytes_eq-Decides}
use Rattle.foundation.proofs.Options.{same_some}
use Rattle.arm_value.specs.Look.{fold}
use Rattle.file_lists.specs.Found.{sought, name_at, Differ}

-- ---- places

module _ {E : Type 0} (test : E → Bool) where
  -- the same, counted from the first
  abbrev place : List E → Option ℕ
  place [] = None
  place (x ∷ xs) = if test x then Some 0 else option_map suc (place xs)

  later_by : (b : Bool) (i : ℕ) (o p : Option ℕ) → o ≡ option_map suc p
      → (if b then Some (i + 1) else o) ≡ option_map suc (if b then Some i else p)
  later_by true i o p e = ap (λ n. Some n) (next i)
    where
      next : (i : ℕ) → i + 1 ≡ suc i
      next i = omega arith
  later_by false i o p e = e

  later : (i : ℕ) (xs : List E) → position_from test (i + 1) xs ≡ option_map suc (position_from test i xs)
  later i [] = refl
  later i (x ∷ xs) =
      later_by (test x) i (position_from test (i + 1 + 1) xs) (position_from test (i + 1) xs) (later (i + 1) xs)

  counted : (xs : List E) → position_from test 0 xs ≡ place xs
  counted [] = refl
  counted (x ∷ xs) =
      ap (λ o. if test x then Some 0 else o) (later 0 xs ∙ ap (option_map suc) (counted xs))

  is_place : (xs : List E) → position test xs ≡ place xs
  is_place xs = position_from-zero test xs ∙ counted xs

  -- the entry at a place
  abbrev HasPassed : List E → ℕ → Type 0
  HasPassed xs n = (y : E) × ((slice_get xs n ≡ Some y) × (test y ≡ true))

  passed_later : (x : E) (xs : List E) (o : Option ℕ) (n : ℕ) → option_map suc o ≡ Some n
      → ((m : ℕ) → o ≡ Some m → HasPassed xs m) → HasPassed (x ∷ xs) n
  passed_later x xs None n e h = absurd cc
  passed_later x xs (Some m) n e h = subst (HasPassed (x ∷ xs)) (same_some e) (h m refl)

  passed_by : (b : Bool) (x : E) (xs : List E) (n : ℕ) → test x ≡ b
      → (if b then Some 0 else option_map suc (place xs)) ≡ Some n → ((m : ℕ) → place xs ≡ Some m → HasPassed xs m)
      → HasPassed (x ∷ xs) n
  passed_by true x xs n t e h = subst (HasPassed (x ∷ xs)) (same_some e) (x, (refl, t))
  passed_by false x xs n t e h = passed_later x xs (place xs) n e h

  passed : (xs : List E) (n : ℕ) → place xs ≡ Some n → HasPassed xs n
  passed [] n e = absurd cc
  passed (x ∷ xs) n e = passed_by (test x) x xs n refl e (passed xs)

  none_by : (b : Bool) (x : E) (xs : List E) → test x ≡ b
      → (if b then Some 0 else option_map suc (place xs)) ≡ None → (test x ≡ false) × (place xs ≡ None)
  none_by true x xs t e = absurd cc
  none_by false x xs t e = (t, nothing (place xs) e)
    where
      nothing : (o : Option ℕ) → option_map suc o ≡ None → o ≡ None
      nothing None e = refl
      nothing (Some n) e = absurd cc

  -- where none has a place, none passes
  none_passes : (xs : List E) → place xs ≡ None → (n : ℕ) (y : E) → slice_get xs n ≡ Some y → test y ≡ false
  none_passes [] e zero y g = absurd cc
  none_passes [] e (suc n) y g = absurd cc
  none_passes (x ∷ xs) e zero y g =
      subst (λ z. test z ≡ false) (same_some g) (none_by (test x) x xs refl e).0
  none_passes (x ∷ xs) e (suc n) y g = none_passes xs (none_by (test x) x xs refl e).1 n y g

-- ---- names

module _ {E : Type 0} (key : E → List ℕ) (es : List E) where
  abbrev test_of : List ℕ → E → Bool
  test_of x e = bytes_eq x (fold (key e))

  pub same_fold : (x y : List ℕ) → bytes_eq x (fold y) ≡ true → x ≡ fold y
  same_fold x y e = (bytes_eq-Decides x (fold y)).0 e

  pub is_fold : (x y : List ℕ) → x ≡ fold y → bytes_eq x (fold y) ≡ true
  is_fold x y e = (bytes_eq-Decides x (fold y)).1 e

  -- the entry that is sought has that name
  pub sought_name : (x : List ℕ) (n : ℕ) → sought key es x ≡ Some n
      → (y : List ℕ) × ((name_at key es n ≡ Some y) × (x ≡ fold y))
  sought_name x n e =
      let p = passed (test_of x) es n (sym (is_place (test_of x) es) ∙ e) in
      (key p.0, (ap (option_map key) p.1.0, same_fold x (key p.0) p.1.1))

  -- no entry has the name where none is found
  pub not_sought : (x : List ℕ) → sought key es x ≡ None → (n : ℕ) (y : List ℕ) → name_at key es n ≡ Some y
      → bytes_eq x (fold y) ≡ false
  not_sought x e n y g = by_entry (slice_get es n) refl g
    where
      by_entry : (o : Option E) → slice_get es n ≡ o → option_map key o ≡ Some y → bytes_eq x (fold y) ≡ false
      by_entry None q h = absurd cc
      by_entry (Some z) q h =
          subst (λ w. bytes_eq x (fold w) ≡ false) (same_some h)
          (none_passes (test_of x) es (sym (is_place (test_of x) es) ∙ e) n z q)

  module _ (differ : Differ key es) where
    -- the entry of a name is the one that is sought by it
    pub is_sought : (n : ℕ) (y : List ℕ) → name_at key es n ≡ Some y → sought key es (fold y) ≡ Some n
    is_sought n y g = by_place (sought key es (fold y)) refl
      where
        by_place : (o : Option ℕ) → sought key es (fold y) ≡ o → o ≡ Some n
        by_place None e =
            absurd (true≢false (sym (is_fold (fold y) y refl) ∙ not_sought (fold y) e n y g))
        by_place (Some m) e =
            let s = sought_name (fold y) m e in
            ap (λ k. Some k) (differ m n s.0 y s.1.0 g (sym s.1.1))

    -- one that is sought by another name has another number
    pub other_name : (x : List ℕ) (n m : ℕ) (y : List ℕ) → sought key es x ≡ Some n → name_at key es m ≡ Some y
        → (n ≡ m → ⊥) → bytes_eq x (fold y) ≡ false
    other_name x n m y e g apart = by_test (bytes_eq x (fold y)) refl
      where
        by_test : (b : Bool) → bytes_eq x (fold y) ≡ b → b ≡ false
        by_test false t = refl
        by_test true t =
            let s = sought_name x n e in
            absurd (apart (differ n m s.0 y s.1.0 g (sym s.1.1 ∙ same_fold x y t)))
