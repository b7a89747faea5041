-- The order of names.
use Rattle.std.proofs.Common.{◌≡◌, ◌<◌, ◌≤◌, ◌+◌, ℕ, zero, suc, List, [], ◌∷◌, length, map, drop}
use Rattle.std.proofs.Common.{Bool, true, false, Some, Ordering, Less, Equal, Greater}
use Rattle.std.proofs.Common.{refl, sym, ap, ◌∙◌, subst, arith, encode_utf8_all}
use Rattle.std.specs.Prelude.{slice_get, if◌then◌else◌}
use Rattle.std.specs.BTreeSet.{BTreeSet}
use Rattle.std.specs.Cmp.Lexicographic.{slice_cmp}
use Rattle.std.specs.Ordering.{match_ordering, ordering_then, nat_cmp}
use Rattle.foundation.proofs.Lists.{got_next}
use Rattle.foundation.proofs.Comparisons.{less}
use Rattle.arm_value.specs.Json.{key_cmp}
use Rattle.template_parts.specs.declared.mode.Form.{Form}
use Rattle.bicep_declared.specs.Declarations.{DeclaredTree}
use Rattle.bicep_meaning.specs.Files.{SourceFile}
use Rattle.source_worlds.specs.Numbers.{passing, name_of, inserted, by_name}
use Rattle.template_numbers.specs.Listed.{is_listed, listed}
use Rattle.template_numbers.specs.Named.{Named, order, with_name, numbers_in, HaveNames, IsOneMore, AreNamed}
use Rattle.template_numbers.specs.Named.{AreAbove, Increase}

module _ (f : SourceFile) where
  above_by : (k n m : ℕ) (ms more : List ℕ) (o : Ordering) → k < n → k < m → AreAbove k ms → AreAbove k more
      → AreAbove k (match_ordering o (n ∷ m ∷ ms) (n ∷ m ∷ ms) (m ∷ more))
  above_by k n m ms more Less a b c d = (a, (b, c))
  above_by k n m ms more Equal a b c d = (a, (b, c))
  above_by k n m ms more Greater a b c d = (b, d)

  above_inserted : (k n : ℕ) (ms : List ℕ) → k < n → AreAbove k ms → AreAbove k (inserted f n ms)
  above_inserted k n [] a h = (a, tt)
  above_inserted k n (m ∷ ms) a h =
      above_by k n m ms (inserted f n ms) (key_cmp (name_of f n) (name_of f m)) a h.0 h.1
      (above_inserted k n ms a h.1)

  above_sorted : (k : ℕ) (ns : List ℕ) → AreAbove k ns → AreAbove k (by_name f ns)
  above_sorted k [] h = tt
  above_sorted k (n ∷ ns) h = above_inserted k n (by_name f ns) h.0 (above_sorted k ns h.1)

  names_by : (k x : Named) (ks more : List Named) (o : Ordering) → k.0.now ≡ encode_utf8_all (name_of f k.1)
      → HaveNames f (x ∷ ks) → HaveNames f more
      → HaveNames f (match_ordering o (k ∷ x ∷ ks) (x ∷ ks) (x ∷ more))
  names_by k x ks more Less e h r = (e, h)
  names_by k x ks more Equal e h r = h
  names_by k x ks more Greater e h r = (h.0, r)

  still_named : (k : Named) (ks : List Named) → k.0.now ≡ encode_utf8_all (name_of f k.1) → HaveNames f ks
      → HaveNames f (with_name ks k)
  still_named k [] e h = (e, tt)
  still_named k (x ∷ ks) e h = names_by k x ks (with_name ks k) (order k x) e h (still_named k ks e h.1)

  placed_by : (k x : Named) (ks : List Named) (o p : Ordering) → p ≡ Less
      → map (λ y. y.1) (with_name ks k) ≡ inserted f k.1 (map (λ y. y.1) ks)
      → map (λ (y : Named). y.1) (match_ordering (ordering_then o p) (k ∷ x ∷ ks) (x ∷ ks) (x ∷ with_name ks k))
      ≡ match_ordering o (k.1 ∷ x.1 ∷ map (λ y. y.1) ks) (k.1 ∷ x.1 ∷ map (λ y. y.1) ks)
      (x.1 ∷ inserted f k.1 (map (λ y. y.1) ks))
  placed_by k x ks Less p e r = refl
  placed_by k x ks Equal p e r =
      ap (λ q. map (λ (y : Named). y.1) (match_ordering q (k ∷ x ∷ ks) (x ∷ ks) (x ∷ with_name ks k))) e
  placed_by k x ks Greater p e r = ap (λ ns. x.1 ∷ ns) r

  -- a number below the others comes to its place
  placed : (k : Named) (ks : List Named) → k.0.now ≡ encode_utf8_all (name_of f k.1) → HaveNames f ks
      → AreAbove k.1 (map (λ y. y.1) ks) → map (λ y. y.1) (with_name ks k) ≡ inserted f k.1 (map (λ y. y.1) ks)
  placed k [] e h a = refl
  placed k (x ∷ ks) e h a =
      placed_by k x ks (slice_cmp nat_cmp k.0.now x.0.now) (nat_cmp k.1 x.1) (less k.1 x.1 a.0)
      (placed k ks e h.1 a.1)
      ∙ ap (λ o. match_ordering o (k.1 ∷ x.1 ∷ map (λ y. y.1) ks) (k.1 ∷ x.1 ∷ map (λ y. y.1) ks)
      (x.1 ∷ inserted f k.1 (map (λ y. y.1) ks)))
      (ap (λ u. slice_cmp nat_cmp u x.0.now) e ∙ ap (slice_cmp nat_cmp (encode_utf8_all (name_of f k.1))) h.0)

  -- ---- the loop

  increase_after : (xs : List ℕ) (k : ℕ) → Increase xs → Increase (drop k xs)
  increase_after xs zero h = h
  increase_after [] (suc k) h = tt
  increase_after (x ∷ xs) (suc k) h = increase_after xs k h.1

  pub none_named : (xs : List ℕ) (s : BTreeSet Named) (k : ℕ) → s.keys ≡ [] → k ≡ length xs
      → AreNamed f (drop k xs) s
  none_named xs s k e l =
      record {
        numbers = ap (map (λ (y : Named). y.1)) e ∙ ap (by_name f) (sym (ap (λ m. drop m xs) l ∙ all_dropped xs));
        names = subst (HaveNames f) (sym e) tt;
      }
    where
      all_dropped : (xs : List ℕ) → drop (length xs) xs ≡ []
      all_dropped [] = refl
      all_dropped (x ∷ xs) = all_dropped xs

  -- one more, which is the number before those that are named
  pub one_named : (xs : List ℕ) (s more : BTreeSet Named) (k j n : ℕ) → Increase xs → slice_get xs j ≡ Some n
      → k ≡ j + 1 → AreNamed f (drop k xs) s → IsOneMore f n s more → AreNamed f (drop j xs) more
  one_named xs s more k j n increase at next h one =
      let here = got_next xs j n at in
      let above : AreAbove n (drop (suc j) xs) = (subst Increase here (increase_after xs j increase)).0 in
      let numbers : numbers_in s ≡ by_name f (drop (suc j) xs) =
      h.numbers ∙ ap (λ i. by_name f (drop i xs)) (one_after k j next) in
      let over : AreAbove n (numbers_in s) =
      subst (AreAbove n) (sym numbers) (above_sorted n (drop (suc j) xs) above) in
      record {
        numbers =
            ap (map (λ (y : Named). y.1)) one.keys
            ∙ placed (one.name, n) s.keys one.is h.names over
            ∙ ap (inserted f n) numbers
            ∙ ap (by_name f) (sym here);
        names = subst (HaveNames f) (sym one.keys) (still_named (one.name, n) s.keys one.is h.names);
      }
    where
      one_after : (k j : ℕ) → k ≡ j + 1 → k ≡ suc j
      one_after k j e = omega (arith, e)

  pub all_named : (xs : List ℕ) (s : BTreeSet Named) (k : ℕ) → k ≤ 0 → AreNamed f (drop k xs) s → AreNamed f xs s
  all_named xs s k l h = subst (λ i. AreNamed f (drop i xs) s) (none k l) h
    where
      none : (k : ℕ) → k ≤ 0 → k ≡ 0
      none k l = omega (arith, l)

-- ---- numbers that pass a test increase

if_above : (m n : ℕ) (b : Bool) (ns : List ℕ) → m < n → AreAbove m ns → AreAbove m (if b then n ∷ ns else ns)
if_above m n true ns l h = (l, h)
if_above m n false ns l h = h

above_passing : (test : ℕ → Bool) (m n k : ℕ) → m < n → AreAbove m (passing test n k)
above_passing test m n zero l = tt
above_passing test m n (suc k) l =
    if_above m n (test n) (passing test (suc n) k) l (above_passing test m (suc n) k (over m n l))
  where
    over : (m n : ℕ) → m < n → m < suc n
    over m n l = omega (arith, l)

if_increase : (n : ℕ) (b : Bool) (ns : List ℕ) → AreAbove n ns → Increase ns → Increase (if b then n ∷ ns else ns)
if_increase n true ns a h = (a, h)
if_increase n false ns a h = h

passing_increase : (test : ℕ → Bool) (n k : ℕ) → Increase (passing test n k)
passing_increase test n zero = tt
passing_increase test n (suc k) =
    if_increase n (test n) (passing test (suc n) k) (above_passing test n (suc n) k (one_more n))
    (passing_increase test (suc n) k)
  where
    one_more : (n : ℕ) → n < suc n
    one_more n = omega arith

pub listed_increase : (z : Form) (ds : List DeclaredTree) → Increase (listed z ds)
listed_increase z ds = passing_increase (is_listed z ds) 0 (length ds)
