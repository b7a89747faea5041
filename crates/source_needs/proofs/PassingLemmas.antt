-- A list of the numbers that pass a test has each of them, and no other.
use Rattle.std.proofs.Common.{◌≡◌, ◌≤◌, ◌<◌, ◌+◌, ℕ, zero, suc, length, Bool, true, false, List, [], ◌∷◌}
use Rattle.std.proofs.Common.{refl, sym, ap, ap₂, ◌∙◌, subst, arith}
use Rattle.std.specs.Prelude.{◌==◌, ◌&&◌, ◌||◌, is_some, if◌then◌else◌}
use Rattle.std.proofs.lemmas.Option.{slice_get_past}
use Rattle.foundation.proofs.Comparisons.{eq_of_true}
use Rattle.foundation.proofs.TruthValues.{and_true_is, or_false, and_false_is}
use Rattle.bicep_dependencies.specs.Dependencies.{has, depends_on}
use Rattle.source_worlds.specs.Files.{SourceFile}
use Rattle.source_worlds.specs.Instances.{put_by}
use Rattle.source_needs.specs.Dependencies.{kinds_of, is_dependency, dependencies}
use Rattle.source_worlds.specs.Numbers.{is_put, passing}

other_number : (n x : ℕ) → (n == x) ≡ false → n ≤ x → suc n ≤ x
other_number n x e l = grind (arith, e, l)

smaller : (n x : ℕ) → x < n → (n == x) ≡ false
smaller n x l = grind (arith, l)

larger : (n x : ℕ) → n < x → (n == x) ≡ false
larger n x l = grind (arith, l)

module _ (test : ℕ → Bool) (x : ℕ) where
  step : (b c : Bool) (n : ℕ) (ns : List ℕ) → (n == x) ≡ c
      → has (if b then n ∷ ns else ns) x ≡ ((b && c) || has ns x)
  step true c n ns e = ap (λ a. a || has ns x) e
  step false c n ns e = refl

  -- another number first
  past : (n : ℕ) (ns : List ℕ) → (n == x) ≡ false → has (if test n then n ∷ ns else ns) x ≡ has ns x
  past n ns e = step (test n) false n ns e ∙ ap (λ a. a || has ns x) (and_false_is (test n))

  above : (n k : ℕ) → x < n → has (passing test n k) x ≡ false
  above n zero l = refl
  above n (suc k) l =
      past n (passing test (suc n) k) (smaller n x l) ∙ above (suc n) k (omega (arith, l))

  beyond : (n k : ℕ) → n + k ≤ x → has (passing test n k) x ≡ false
  beyond n zero l = refl
  beyond n (suc k) l =
      past n (passing test (suc n) k) (larger n x (omega (arith, l))) ∙ beyond (suc n) k (omega (arith, l))

  at_number : (n k : ℕ) → (n == x) ≡ true → has (passing test n (suc k)) x ≡ test x
  at_number n k e =
      step (test n) true n (passing test (suc n) k) e
      ∙ ap₂ (λ a b. a || b) (and_true_is (test n))
      (above (suc n) k (subst (λ y. y < suc n) (eq_of_true n x e) (omega (arith))))
      ∙ or_false (test n) ∙ ap test (eq_of_true n x e)

  by_number : (c : Bool) (n k : ℕ) → (n == x) ≡ c
      → ((n == x) ≡ false → has (passing test (suc n) k) x ≡ test x) → has (passing test n (suc k)) x ≡ test x
  by_number true n k e h = at_number n k e
  by_number false n k e h = past n (passing test (suc n) k) e ∙ h e

  within : (n k : ℕ) → n ≤ x → x < n + k → has (passing test n k) x ≡ test x
  within n zero l m = absurd (omega (arith, l, m))
  within n (suc k) l m =
      by_number (n == x) n k refl (λ e. within (suc n) k (other_number n x e l) (omega (arith, m)))

-- ---- beyond the declarations

not_put : (f : SourceFile) (n : ℕ) → length f.declared.declarations ≤ n → is_put f n ≡ false
not_put f n l = ap (λ o. is_some (put_by f n o)) (slice_get_past f.declared.declarations n l)

no_dependency : (f : SourceFile) (k n : ℕ) → length f.declared.declarations ≤ n → is_dependency f k n ≡ false
no_dependency f k n l = ap (λ b. b && depends_on (kinds_of f) f.declared.declarations k n) (not_put f n l)

data Side (n m : ℕ) : Type 0 where
  below : n < m → Side n m
  outside : m ≤ n → Side n m

side : (n m : ℕ) → Side n m
side n zero = outside (omega (arith))
side zero (suc m) = below (omega (arith))
side (suc n) (suc m) = one_more (side n m)
  where
    one_more : Side n m → Side (suc n) (suc m)
    one_more (below l) = below (omega (arith, l))
    one_more (outside l) = outside (omega (arith, l))

pub all_dependencies : (f : SourceFile) (k n : ℕ) → has (dependencies f k) n ≡ is_dependency f k n
all_dependencies f k n = by_side (side n (length f.declared.declarations))
  where
    by_side : Side n (length f.declared.declarations) → has (dependencies f k) n ≡ is_dependency f k n
    by_side (below l) =
        within (is_dependency f k) n 0 (length f.declared.declarations) (omega (arith)) (omega (arith, l))
    by_side (outside l) =
        beyond (is_dependency f k) n 0 (length f.declared.declarations) (omega (arith, l))
        ∙ sym (no_dependency f k n l)
