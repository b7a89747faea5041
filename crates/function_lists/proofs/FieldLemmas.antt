-- A member that is looked for by its key, among members in the order of their keys.
use Rattle.std.proofs.Common.{◌≡◌, ◌<◌, ◌+◌, ℕ, zero, suc, Bool, true, false, ◌&&◌, List, [], ◌∷◌, length}
use Rattle.std.proofs.Common.{get_or, drop, map, Err, Ordering, Less, Equal, Greater, bytes_eq, add-one, refl, ap}
use Rattle.std.proofs.Common.{sym, ◌∙◌, subst, arith}
use Rattle.std.specs.Ordering.{match_ordering}
use Rattle.std.specs.List.{AllByRecursion, list_any}
use Rattle.std.specs.List.Sorted.{IsStrictlySortedBy, IsBinarySearchResult, IsSearchInRange}
use Rattle.std.proofs.lemmas.List.Edits.{length-insert}
use Rattle.foundation.proofs.TruthValues.{or_false}
use Rattle.arm_value.specs.Json.{Json, Member, keys, key_cmp, put, IsInOrder}
use Rattle.arm_value.specs.View.{member}
use Rattle.arm_value.specs.Place.{IsPlace}
use Rattle.arm_value.specs.declared.value.Field.{Field}
use Rattle.arm_value.proofs.SetLemmas.{equal_keys, is_place, all_at}
use Rattle.function_lists.proofs.MergeLemmas.{beneath, alike, differs, differs_from, same_key, after, same_after}

none_above : (q : Member → Bool) (k : List ℕ) (ms : List Member) → AllByRecursion (λ y. key_cmp k y ≡ Less) (keys ms)
    → list_any (λ n. bytes_eq k n.0 && q n) ms ≡ false
none_above q k [] h = refl
none_above q k (m ∷ ms) h = rw (differs k m.0 h.0) (none_above q k ms h.1)

-- where a key is found, its member alone may pass
pub found_at : (q : Member → Bool) (k : List ℕ) (fs : List Field) (i : ℕ) (d : Field) → IsInOrder (map member fs)
    → i < length fs → key_cmp (get_or fs i d).name k ≡ Equal
    → list_any (λ n. bytes_eq k n.0 && q n) (map member fs) ≡ q (member (get_or fs i d))
unfolding IsStrictlySortedBy
found_at q k [] i d o h e = absurd (omega arith)
found_at q k (f ∷ fs) zero d o h e =
    let here : bytes_eq k f.name ≡ true = same_key k f.name (alike f.name k e) in
    let later : list_any (λ n. bytes_eq k n.0 && q n) (map member fs) ≡ false =
    none_above q k (map member fs) (same_after k f.name (keys (map member fs)) (alike f.name k e) o.0) in
    rw (here, later) (or_false (q (member f)))
found_at q k (f ∷ fs) (suc i) d o h e =
    let less : key_cmp f.name k ≡ Less = ap (key_cmp f.name) (sym (equal_keys (get_or fs i d).name k e))
    ∙ all_at _ fs i d o.0 (omega arith) in
    rw (differs_from f.name k less) (found_at q k fs i d o.1 (omega arith) e)

missing_by : (o : Ordering) (q : Member → Bool) (k : List ℕ) (j : Json) (m : Member) (ms : List Member)
    → key_cmp k m.0 ≡ o → AllByRecursion (λ y. key_cmp m.0 y ≡ Less) (keys ms)
    → length (match_ordering o ((k, j) ∷ m ∷ ms) ((k, j) ∷ ms) (m ∷ put k j ms)) ≡ suc (length (m ∷ ms))
    → (length (put k j ms) ≡ suc (length ms) → list_any (λ n. bytes_eq k n.0 && q n) ms ≡ false)
    → list_any (λ n. bytes_eq k n.0 && q n) (m ∷ ms) ≡ false
missing_by Less q k j m ms e o h rest = none_above q k (m ∷ ms) (e, after k m.0 (keys ms) e o)
missing_by Equal q k j m ms e o h rest = absurd (omega (arith, h))
missing_by Greater q k j m ms e o h rest = rw (differs_from m.0 k (beneath k m.0 e)) (rest (omega (arith, h)))

-- where a value that is put at a key is one more member, no member had the key
missing : (q : Member → Bool) (k : List ℕ) (j : Json) (ms : List Member) → IsInOrder ms
    → length (put k j ms) ≡ suc (length ms) → list_any (λ n. bytes_eq k n.0 && q n) ms ≡ false
unfolding IsStrictlySortedBy
missing q k j [] o h = refl
missing q k j (m ∷ ms) o h = missing_by (key_cmp k m.0) q k j m ms refl o.0 h (missing q k j ms o.1)

pub found_none : (q : Member → Bool) (k : List ℕ) (j : Json) (fs : List Field) (i : ℕ) → IsInOrder (map member fs)
    → IsSearchInRange (Err i) (length fs) → IsBinarySearchResult (λ f. key_cmp f.name k) fs (Err i)
    → list_any (λ n. bytes_eq k n.0 && q n) (map member fs) ≡ false
found_none q k j fs i o h found =
    let place : IsPlace k (map member fs) (Err i) = is_place k fs (Err i) o h found in
    let one_more : length (put k j (map member fs)) ≡ suc (length (map member fs)) = ap length (place.1 j)
    ∙ length-insert (map member fs) i (k, j) place.0 ∙ add-one (length (map member fs)) in
    missing q k j (map member fs) o one_more

-- ---- the keys after one of the members

later_above : (fs : List Field) (i : ℕ) (f : Field) → IsInOrder (map member fs) → i < length fs → f ≡ get_or fs i f
    → AllByRecursion (λ y. key_cmp f.name y ≡ Less) (keys (map member (drop (suc i) fs)))
unfolding IsStrictlySortedBy
later_above [] i f o h e = absurd (omega arith)
later_above (g ∷ fs) zero f o h e =
    subst (λ (x : Field). AllByRecursion (λ y. key_cmp x.name y ≡ Less) (keys (map member fs))) (sym e) o.0
later_above (g ∷ fs) (suc i) f o h e = later_above fs i f o.1 (omega arith) e

pub later_keys_above : (fs : List Field) (i : ℕ) (f : Field) → IsInOrder (map member fs) → i < length fs
    → f ≡ get_or fs i f → AllByRecursion (λ y. key_cmp f.name y ≡ Less) (keys (map member (drop (i + 1) fs)))
later_keys_above fs i f o h e = rw add-one (later_above fs i f o h e)
