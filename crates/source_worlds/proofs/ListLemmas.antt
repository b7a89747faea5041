-- Lists of different numbers, and where a number is in one.
use Rattle.std.proofs.Common.{◌≡◌, ◌≤◌, ◌<◌, ◌+◌, ℕ, zero, suc, Bool, true, false, List, [], ◌∷◌}
use Rattle.std.proofs.Common.{Option, Some, None, Ordering, Less, Equal, Greater, refl, sym, ap, ◌∙◌, subst, arith}
use Rattle.std.specs.Prelude.{nat_eq, option_map, slice_get, if◌then◌else◌}
use Rattle.std.specs.Ordering.{match_ordering}
use Rattle.foundation.proofs.Comparisons.{eq_itself, eq_of_true}
use Rattle.foundation.proofs.Options.{same_some}
use Rattle.arm_value.specs.Json.{key_cmp}
use Rattle.bicep_meaning.specs.Files.{SourceFile}
use Rattle.source_worlds.specs.Numbers.{passing, place_in, inserted, by_name, name_of}

-- ---- places

module _ (n : ℕ) where
  place_by : (b : Bool) (x : ℕ) (xs : List ℕ) (m : ℕ) → nat_eq n x ≡ b
      → ((k : ℕ) → place_in n xs ≡ Some k → slice_get xs k ≡ Some n)
      → (if b then Some 0 else option_map suc (place_in n xs)) ≡ Some m → slice_get (x ∷ xs) m ≡ Some n
  place_by true x xs m e f h =
      subst (λ m. slice_get (x ∷ xs) m ≡ Some n) (same_some h) (ap (λ y. Some y) (sym (eq_of_true n x e)))
  place_by false x xs m e f h = later (place_in n xs) refl h
    where
      later : (o : Option ℕ) → place_in n xs ≡ o → option_map suc o ≡ Some m → slice_get (x ∷ xs) m ≡ Some n
      later None g k = absurd cc
      later (Some i) g k = subst (λ m. slice_get (x ∷ xs) m ≡ Some n) (same_some k) (f i g)

  -- at the place of a number is the number
  pub at_place : (xs : List ℕ) (m : ℕ) → place_in n xs ≡ Some m → slice_get xs m ≡ Some n
  at_place [] m h = absurd cc
  at_place (x ∷ xs) m h = place_by (nat_eq n x) x xs m refl (at_place xs) h

-- ---- different numbers

abbrev pub NotIn : ℕ → List ℕ → Type 0
NotIn n [] = Unit {0}
NotIn n (x ∷ xs) = (n ≡ x → ⊥) × NotIn n xs

abbrev pub AllDiffer : List ℕ → Type 0
AllDiffer [] = Unit {0}
AllDiffer (x ∷ xs) = NotIn x xs × AllDiffer xs

not_at : (x n : ℕ) (xs : List ℕ) (m : ℕ) → NotIn x xs → slice_get xs m ≡ Some n → x ≡ n → ⊥
not_at x n [] zero d h e = absurd cc
not_at x n [] (suc m) d h e = absurd cc
not_at x n (y ∷ ys) zero d h e = d.0 (e ∙ sym (same_some h))
not_at x n (y ∷ ys) (suc m) d h e = not_at x n ys m d.1 h e

unequal : (n x : ℕ) (b : Bool) → nat_eq n x ≡ b → (x ≡ n → ⊥) → nat_eq n x ≡ false
unequal n x true e d = absurd (d (sym (eq_of_true n x e)))
unequal n x false e d = e

-- the place of what is in a list of different numbers
pub place_at : (n : ℕ) (xs : List ℕ) (m : ℕ) → AllDiffer xs → slice_get xs m ≡ Some n → place_in n xs ≡ Some m
place_at n [] zero d h = absurd cc
place_at n [] (suc m) d h = absurd cc
place_at n (x ∷ xs) zero d h =
    ap (λ b. if b then Some 0 else option_map suc (place_in n xs))
    (subst (λ y. nat_eq n y ≡ true) (sym (same_some h)) (eq_itself n))
place_at n (x ∷ xs) (suc m) d h =
    ap (λ b. if b then Some 0 else option_map suc (place_in n xs))
    (unequal n x (nat_eq n x) refl (not_at x n xs m d.0 h))
    ∙ ap (option_map suc) (place_at n xs m d.1 h)

-- ---- what passes a test

module _ (test : ℕ → Bool) where
  passing_step : (b : Bool) (m n : ℕ) (ns : List ℕ) → m < n → NotIn m ns → NotIn m (if b then n ∷ ns else ns)
  passing_step true m n ns l d = ((λ e. absurd (omega (arith, l, e))), d)
  passing_step false m n ns l d = d

  pub passing_above : (m n k : ℕ) → m < n → NotIn m (passing test n k)
  passing_above m n zero l = tt
  passing_above m n (suc k) l =
      passing_step (test n) m n (passing test (suc n) k) l (passing_above m (suc n) k (omega (arith, l)))

  differ_step : (b : Bool) (n : ℕ) (ns : List ℕ) → NotIn n ns → AllDiffer ns → AllDiffer (if b then n ∷ ns else ns)
  differ_step true n ns d a = (d, a)
  differ_step false n ns d a = a

  pub passing_differ : (n k : ℕ) → AllDiffer (passing test n k)
  passing_differ n zero = tt
  passing_differ n (suc k) =
      differ_step (test n) n (passing test (suc n) k) (passing_above n (suc n) k (omega arith))
      (passing_differ (suc n) k)

-- ---- lists in another order

module _ (f : SourceFile) where
  put_not_in : (o : Ordering) (x n m : ℕ) (ms ns : List ℕ) → (x ≡ n → ⊥) → NotIn x (m ∷ ms) → NotIn x ns
      → NotIn x (match_ordering o (n ∷ m ∷ ms) (n ∷ m ∷ ms) (m ∷ ns))
  put_not_in Less x n m ms ns d a b = (d, a)
  put_not_in Equal x n m ms ns d a b = (d, a)
  put_not_in Greater x n m ms ns d a b = (a.0, b)

  inserted_not_in : (x n : ℕ) (ms : List ℕ) → (x ≡ n → ⊥) → NotIn x ms → NotIn x (inserted f n ms)
  inserted_not_in x n [] d a = (d, tt)
  inserted_not_in x n (m ∷ ms) d a =
      put_not_in (key_cmp (name_of f n) (name_of f m)) x n m ms (inserted f n ms) d a
      (inserted_not_in x n ms d a.1)

  put_differ : (o : Ordering) (n m : ℕ) (ms ns : List ℕ) → NotIn n (m ∷ ms) → AllDiffer (m ∷ ms) → NotIn m ns
      → AllDiffer ns → AllDiffer (match_ordering o (n ∷ m ∷ ms) (n ∷ m ∷ ms) (m ∷ ns))
  put_differ Less n m ms ns d a b c = (d, a)
  put_differ Equal n m ms ns d a b c = (d, a)
  put_differ Greater n m ms ns d a b c = (b, c)

  inserted_differ : (n : ℕ) (ms : List ℕ) → NotIn n ms → AllDiffer ms → AllDiffer (inserted f n ms)
  inserted_differ n [] d a = (tt, tt)
  inserted_differ n (m ∷ ms) d a =
      put_differ (key_cmp (name_of f n) (name_of f m)) n m ms (inserted f n ms) d a
      (inserted_not_in m n ms (λ e. d.0 (sym e)) a.0) (inserted_differ n ms d.1 a.1)

  by_name_not_in : (x : ℕ) (ns : List ℕ) → NotIn x ns → NotIn x (by_name f ns)
  by_name_not_in x [] d = tt
  by_name_not_in x (n ∷ ns) d = inserted_not_in x n (by_name f ns) d.0 (by_name_not_in x ns d.1)

  pub by_name_differ : (ns : List ℕ) → AllDiffer ns → AllDiffer (by_name f ns)
  by_name_differ [] a = tt
  by_name_differ (n ∷ ns) a =
      inserted_differ n (by_name f ns) (by_name_not_in n ns a.0) (by_name_differ ns a.1)

-- ---- what is in a list

abbrev pub In : ℕ → List ℕ → Type 0
In n xs = (m : ℕ) × (slice_get xs m ≡ Some n)

in_later : (n x : ℕ) (xs : List ℕ) → In n xs → In n (x ∷ xs)
in_later n x xs h = (suc h.0, h.1)

module _ (test : ℕ → Bool) where
  in_step : (b : Bool) (x n : ℕ) (ns : List ℕ) → In x ns → In x (if b then n ∷ ns else ns)
  in_step true x n ns h = in_later x n ns h
  in_step false x n ns h = h

  in_first : (b : Bool) (n : ℕ) (ns : List ℕ) → b ≡ true → In n (if b then n ∷ ns else ns)
  in_first true n ns e = (0, refl)
  in_first false n ns e = absurd cc

  in_by : (b : Bool) (x n k : ℕ) → nat_eq x n ≡ b → test x ≡ true → n ≤ x → x < n + suc k
      → ((l : suc n ≤ x) → x < suc n + k → In x (passing test (suc n) k))
      → In x (if test n then n ∷ passing test (suc n) k else passing test (suc n) k)
  in_by true x n k e t l u f =
      let is : x ≡ n = eq_of_true x n e in
      subst (λ y. In y (if test n then n ∷ passing test (suc n) k else passing test (suc n) k)) (sym is)
      (in_first (test n) n (passing test (suc n) k) (ap test (sym is) ∙ t))
  in_by false x n k e t l u f =
      in_step (test n) x n (passing test (suc n) k) (f (differs e l) (omega (arith, u)))
    where
      differs : nat_eq x n ≡ false → n ≤ x → suc n ≤ x
      differs e l = grind (arith)

  -- each number that passes is among those that pass
  pub passing_has : (x n k : ℕ) → test x ≡ true → n ≤ x → x < n + k → In x (passing test n k)
  passing_has x n zero t l u = absurd (omega (arith, l, u))
  passing_has x n (suc k) t l u =
      in_by (nat_eq x n) x n k refl t l u (λ l2 u2. passing_has x (suc n) k t l2 u2)

module _ (f : SourceFile) where
  put_first : (o : Ordering) (n m : ℕ) (ms ns : List ℕ) → In n ns
      → In n (match_ordering o (n ∷ m ∷ ms) (n ∷ m ∷ ms) (m ∷ ns))
  put_first Less n m ms ns h = (0, refl)
  put_first Equal n m ms ns h = (0, refl)
  put_first Greater n m ms ns h = in_later n m ns h

  inserted_has : (n : ℕ) (ms : List ℕ) → In n (inserted f n ms)
  inserted_has n [] = (0, refl)
  inserted_has n (m ∷ ms) =
      put_first (key_cmp (name_of f n) (name_of f m)) n m ms (inserted f n ms) (inserted_has n ms)

  -- another one is first, or later
  put_other : (o : Ordering) (x n m : ℕ) (ms ns : List ℕ) → In x (m ∷ ms) → In x (m ∷ ns)
      → In x (match_ordering o (n ∷ m ∷ ms) (n ∷ m ∷ ms) (m ∷ ns))
  put_other Less x n m ms ns h g = in_later x n (m ∷ ms) h
  put_other Equal x n m ms ns h g = in_later x n (m ∷ ms) h
  put_other Greater x n m ms ns h g = g

  inserted_keeps : (x n : ℕ) (ms : List ℕ) → In x ms → In x (inserted f n ms)
  inserted_keeps x n [] h = in_later x n [] h
  inserted_keeps x n (m ∷ ms) (zero, e) =
      put_other (key_cmp (name_of f n) (name_of f m)) x n m ms (inserted f n ms) (zero, e) (zero, e)
  inserted_keeps x n (m ∷ ms) (suc k, e) =
      put_other (key_cmp (name_of f n) (name_of f m)) x n m ms (inserted f n ms) (suc k, e)
      (in_later x m (inserted f n ms) (inserted_keeps x n ms (k, e)))

  by_name_here : (x n : ℕ) (ns : List ℕ) → n ≡ x → In x (inserted f n ns)
  by_name_here x n ns e = subst (λ y. In y (inserted f n ns)) e (inserted_has n ns)

  pub by_name_has : (x : ℕ) (ns : List ℕ) → In x ns → In x (by_name f ns)
  by_name_has x [] h = h
  by_name_has x (n ∷ ns) (zero, e) = by_name_here x n (by_name f ns) (same_some e)
  by_name_has x (n ∷ ns) (suc k, e) = inserted_keeps x n (by_name f ns) (by_name_has x ns (k, e))
