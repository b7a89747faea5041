-- Numbers of resources that are put, and of modules, in the order of the source.
use Rattle.std.proofs.Common.{◌≡◌, ◌≤◌, ◌<◌, ◌+◌, ◌==◌, ◌||◌, ℕ, zero, suc, Bool, true, false, List, [], ◌∷◌, length}
use Rattle.std.proofs.Common.{Option, Some, None, refl, sym, ap, subst, ◌∙◌, arith, Less, nat_cmp}
use Rattle.std.proofs.lemmas.Bool.Decides.{nat_tests}
use Rattle.std.proofs.lemmas.Map.Keys.{sorted_head, sorted_tail}
use Rattle.std.proofs.lemmas.Option.{slice_get_within}
use Rattle.std.specs.List.{filter, AllByRecursion}
use Rattle.std.specs.List.Sorted.{IsStrictlySortedBy}
use Rattle.std.specs.Prelude.{◌&&◌, is_some, slice_get, if◌then◌else◌}
use Rattle.foundation.proofs.TruthValues.{and_false_is, and_true_is}
use Rattle.foundation.proofs.Comparisons.{eq_of_true}
use Rattle.bicep_declared.specs.Declarations.{DeclaredTree}
use Rattle.bicep_dependencies.specs.Dependencies.{has, depends_on}
use Rattle.bicep_meaning.specs.Files.{SourceFile}
use Rattle.bicep_meaning.specs.Instances.{put_by}
use Rattle.emitted_files.specs.Dependencies.{kinds_of, dependencies}
use Rattle.source_worlds.specs.Numbers.{is_put, passing}

-- ---- numbers that ascend

-- from a number on
abbrev Ascend : ℕ → List ℕ → Type 0
Ascend low [] = Unit {0}
Ascend low (k ∷ ks) = (low ≤ k) × Ascend (suc k) ks

above : (k y : ℕ) → nat_cmp k y ≡ Less → suc k ≤ y
above k y e = grind (arith, nat_tests)

all_above : (k : ℕ) (ys : List ℕ) → AllByRecursion (λ y. nat_cmp k y ≡ Less) ys → AllByRecursion (λ y. suc k ≤ y) ys
all_above k [] h = tt
all_above k (y ∷ ys) h = (above k y h.0, all_above k ys h.1)

ascend : (low : ℕ) (ks : List ℕ) → AllByRecursion (λ y. low ≤ y) ks → IsStrictlySortedBy nat_cmp ks → Ascend low ks
ascend low [] a s = tt
ascend low (k ∷ ks) a s =
    (a.0, ascend (suc k) ks (all_above k ks (sorted_head nat_cmp k ks s)) (sorted_tail nat_cmp k ks s))

all_there : (ks : List ℕ) → AllByRecursion (λ y. 0 ≤ y) ks
all_there [] = tt
all_there (k ∷ ks) = (omega arith, all_there ks)

other : (k n : ℕ) → n < k → (k == n) ≡ false
other k n l = grind (arith, nat_tests)

distinct : (k n : ℕ) → (k == n) ≡ false → n ≤ k → suc n ≤ k
distinct k n e l = grind (arith, nat_tests)

-- a number below them is none of them
none_below : (low n : ℕ) (ks : List ℕ) → Ascend low ks → n < low → has ks n ≡ false
none_below low n [] a l = refl
none_below low n (k ∷ ks) a l =
    let p = other k n (omega (arith, l, a.0)) in
    let q = none_below (suc k) n ks a.1 (omega (arith, l, a.0)) in
    λ i. p i || q i

-- ---- those that pass a test

module _ (p : ℕ → Bool) where
  -- none passes where all that pass are below
  none_passes : (ks : List ℕ) (low : ℕ) → Ascend low ks → ((n : ℕ) → p n ≡ true → n < low) → filter p ks ≡ []
  none_passes [] low a h = refl
  none_passes (k ∷ ks) low a h =
      by_test (p k) refl (none_passes ks (suc k) a.1 (λ n e. omega (arith, h n e, a.0)))
    where
      by_test : (b : Bool) → p k ≡ b → filter p ks ≡ [] → (if b then k ∷ filter p ks else filter p ks) ≡ []
      by_test true e r = absurd (omega (arith, h k e, a.0))
      by_test false e r = r

  module _ (t : ℕ → Bool) where
    -- the test is that of p and of being one of these, from a number on
    abbrev Agree : ℕ → List ℕ → Type 0
    Agree low ks = (n : ℕ) → low ≤ n → t n ≡ (p n && has ks n)

    module _ (low c : ℕ) (next : (js : List ℕ) → Ascend (suc low) js → Agree (suc low) js
        → passing t (suc low) c ≡ filter p js) where
      left_out : (ks : List ℕ) → has ks low ≡ false → Ascend (suc low) ks → Agree low ks
          → passing t low (suc c) ≡ filter p ks
      left_out ks e a h =
          ap (λ b. if b then low ∷ passing t (suc low) c else passing t (suc low) c)
          (h low (omega arith) ∙ ap (λ b. p low && b) e ∙ and_false_is (p low))
          ∙ next ks a (λ n l. h n (omega (arith, l)))

      taken : (k : ℕ) (ks : List ℕ) → k ≡ low → Ascend (suc k) ks → Agree low (k ∷ ks)
          → passing t low (suc c) ≡ filter p (k ∷ ks)
      taken k ks e a h =
          let same : (k == low) ≡ true = grind (arith, nat_tests) in
          let test = h low (omega arith) ∙ ap (λ b. p low && (b || has ks low)) same ∙ and_true_is (p low)
          ∙ ap p (sym e) in
          let rest = next ks (ap_ascend e a) (λ n l. h n (omega (arith, l))
          ∙ ap (λ b. p n && (b || has ks n)) (apart n l)) in
          λ i. if test i then sym e i ∷ rest i else rest i
        where
          ap_ascend : k ≡ low → Ascend (suc k) ks → Ascend (suc low) ks
          ap_ascend q x = subst (λ m. Ascend (suc m) ks) q x

          apart : (n : ℕ) → suc low ≤ n → (k == n) ≡ false
          apart n l = grind (arith, nat_tests)

      step : (ks : List ℕ) → Ascend low ks → Agree low ks → passing t low (suc c) ≡ filter p ks
      step [] a h = left_out [] refl tt h
      step (k ∷ ks) a h = by_first (k == low) refl
        where
          by_first : (b : Bool) → (k == low) ≡ b → passing t low (suc c) ≡ filter p (k ∷ ks)
          by_first true e = taken k ks (eq_of_true k low e) a.1 h
          by_first false e =
              let l = distinct k low e a.0 in
              left_out (k ∷ ks) (none_below (suc low) low (k ∷ ks) (l, a.1) (omega arith)) (l, a.1) h

    passes : (c low : ℕ) (ks : List ℕ) → Ascend low ks → Agree low ks → ((n : ℕ) → p n ≡ true → n < low + c)
        → passing t low c ≡ filter p ks
    passes zero low ks a h b = sym (none_passes ks low a (λ n e. omega (arith, b n e)))
    passes (suc c) low ks a h b =
        step low c (λ js x y. passes c (suc low) js x y (λ n e. omega (arith, b n e))) ks a h

put_within : (f : SourceFile) (n : ℕ) → is_put f n ≡ true → n < 0 + length f.declared.declarations
put_within f n e = by_declaration (slice_get f.declared.declarations n) refl e
  where
    by_declaration : (o : Option DeclaredTree) → slice_get f.declared.declarations n ≡ o
        → is_some (put_by f n o) ≡ true → n < 0 + length f.declared.declarations
    by_declaration None g h = absurd cc
    by_declaration (Some d) g h =
        let l = slice_get_within f.declared.declarations n d g in
        omega (arith, l)

-- what a declaration depends on are those of the numbers that it mentions
pub dependencies_are : (f : SourceFile) (numbers : List ℕ) (k : ℕ) → IsStrictlySortedBy nat_cmp numbers
    → ((n : ℕ) → has numbers n ≡ depends_on (kinds_of f) f.declared.declarations k n)
    → filter (is_put f) numbers ≡ dependencies f k
dependencies_are f numbers k sorted same =
    sym (passes (is_put f) (λ n. is_put f n && depends_on (kinds_of f) f.declared.declarations k n)
    (length f.declared.declarations) 0 numbers (ascend 0 numbers (all_there numbers) sorted)
    (λ n l. ap (λ b. is_put f n && b) (sym (same n))) (put_within f))
