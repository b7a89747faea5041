-- Members with one more, or with another value at a key.
use Rattle.std.proofs.Math.ListN.{set}
use Rattle.std.proofs.Common.{◌≡◌, ◌<◌, ◌≤◌, ◌+◌, ℕ, zero, suc, max, length, get_or, drop}
use Rattle.std.proofs.Common.{List, [], ◌∷◌, map, Result, Ok, Err, Ordering, Less, Equal, Greater}
use Rattle.std.proofs.Common.{encode_utf8_all, refl, sym, ap, ◌∙◌, arith, subst}
use Rattle.std.proofs.lemmas.List.{length-map}
use Rattle.std.proofs.lemmas.Cmp.{nat_list_cmp_total}
use Rattle.std.specs.Ordering.{ordering_reverse, match_ordering, ordering_index, is_eq}
use Rattle.std.specs.List.{AllByRecursion}
use Rattle.std.specs.List.Sorted.{IsStrictlySortedBy}
use Rattle.arm_value.specs.Json.{Json, Member, nesting, members_nesting, pairs, keys, put, key_cmp, IsInOrder}
use Rattle.arm_value.specs.Json.{IsOrderly, PairsAreOrderly, AreMembers}
use Rattle.arm_value.specs.View.{json, member}
use Rattle.arm_value.specs.Place.{replaced, others_nesting, IsPlace}
use Rattle.std.specs.List.{AllWithin, insert}
use Rattle.arm_value.specs.declared.value.Field.{Field}
use Rattle.arm_value.specs.declared.value.Value.{Value}
use Rattle.arm_value.specs.declared.value.Value.TheVariants.{Null}
use Rattle.std.proofs.lemmas.Str.{encodes_same}
use Rattle.std.proofs.lemmas.Slice.Eq.{bytes_eq-Decides}
use Rattle.std.proofs.lemmas.Map.Text.{is_eq-slice_cmp}
use Rattle.std.proofs.lemmas.List.Sorted.{IsNonDecreasingBy-from_all_adjacent}
use Rattle.std.specs.List.Sorted.{IsNonDecreasingBy, IsBinarySearchResult, IsSearchInRange}
use Rattle.foundation.proofs.Lists.{map-insert}

-- ---- the place of a key

reversed : (k l : List ℕ) (o : Ordering) → key_cmp l k ≡ o → key_cmp k l ≡ ordering_reverse o
reversed k l o e = nat_list_cmp_total.antisymm (encode_utf8_all k) (encode_utf8_all l) ∙ ap ordering_reverse e

-- what is below a key is below one that equals it
below_same : (k l m : List ℕ) → key_cmp l m ≡ Less → key_cmp m k ≡ Equal → key_cmp l k ≡ Less
below_same k l m h e =
    reversed l k Greater (nat_list_cmp_total.congr (encode_utf8_all k) (encode_utf8_all m) (encode_utf8_all l)
    (reversed k m Equal e) ∙ reversed m l Less h)

pub all_at : (P : List ℕ → Type 0) (fs : List Field) (i : ℕ) (d : Field) → AllByRecursion P (keys (map member fs))
    → i < length fs → P (get_or fs i d).name
all_at P [] i d h l = absurd (omega arith)
all_at P (f ∷ fs) zero d h l = h.0
all_at P (f ∷ fs) (suc i) d h l = all_at P fs i d h.1 (omega arith)

pub equal_keys : (k l : List ℕ) → key_cmp k l ≡ Equal → k ≡ l
equal_keys k l e =
    encodes_same k l
    ((bytes_eq-Decides (encode_utf8_all k) (encode_utf8_all l)).0
    (sym (is_eq-slice_cmp (encode_utf8_all k) (encode_utf8_all l)) ∙ ap is_eq e))

pub stands_here : (k : List ℕ) (fs : List Field) (i : ℕ) (d : Field) → IsInOrder (map member fs) → i < length fs
    → key_cmp (get_or fs i d).name k ≡ Equal → (j : Json) → put k j (map member fs) ≡ replaced (map member fs) i j
unfolding IsStrictlySortedBy
stands_here k [] i d o h e j = absurd (omega arith)
stands_here k (f ∷ fs) zero d o h e j =
    let same : key_cmp k f.name ≡ Equal = reversed k f.name Equal e in
    rw same (ap (λ (n : List ℕ). (n, j) ∷ map member fs) (equal_keys k f.name same))
stands_here k (f ∷ fs) (suc i) d o h e j =
    let greater : key_cmp k f.name ≡ Greater =
    reversed k f.name Less (below_same k f.name (get_or fs i d).name (all_at _ fs i d o.0 (omega arith)) e) in
    rw greater (ap (λ r. member f ∷ r) (stands_here k fs i d o.1 (omega arith) e j))

pub comes_before : (k : List ℕ) (fs : List Field) (i : ℕ) → i ≤ length fs
    → AllWithin (λ f. key_cmp f.name k ≡ Less) fs 0 i → AllWithin (λ f. key_cmp f.name k ≡ Greater) fs i (length fs)
    → (j : Json) → put k j (map member fs) ≡ insert (map member fs) i (k, j)
comes_before k [] zero h below above j = refl
comes_before k [] (suc i) h below above j = absurd (omega arith)
comes_before k (f ∷ fs) zero h below above j =
    rw (reversed k f.name Greater (above 0 f (omega arith) (omega arith))) refl
comes_before k (f ∷ fs) (suc i) h below above j =
    rw (reversed k f.name Less (below 0 f (omega arith) (omega arith)))
    (ap (λ r. member f ∷ r)
    (comes_before k fs i (omega arith) (λ n d l u. below (suc n) d (omega arith) (omega arith))
    (λ n d l u. above (suc n) d (omega arith) (omega arith)) j))

next_above : (fs : List Field) (i : ℕ) (d : Field) → IsInOrder (map member fs) → i + 1 < length fs
    → key_cmp (get_or fs i d).name (get_or fs (i + 1) d).name ≡ Less
unfolding IsStrictlySortedBy
next_above [] i d o h = absurd (omega arith)
next_above (f ∷ fs) zero d o h = all_at _ fs 0 d o.0 (omega arith)
next_above (f ∷ fs) (suc i) d o h = rw unary (next_above fs i d o.1 (omega arith))
  where
    unary : suc i + 1 ≡ suc (i + 1)
    unary = omega arith

index_below : (a b k : List ℕ) (o : Ordering) → key_cmp b k ≡ o → key_cmp a b ≡ Less
    → ordering_index (key_cmp a k) ≤ ordering_index (key_cmp b k)
index_below a b k Less e h =
    rw (nat_list_cmp_total.trans (encode_utf8_all a) (encode_utf8_all b) (encode_utf8_all k) h e, e) (omega arith)
index_below a b k Equal e h = rw (below_same k a b h e, e) (omega arith)
index_below a b k Greater e h = rw e (at_most_two (key_cmp a k))
  where
    at_most_two : (o : Ordering) → ordering_index o ≤ 2
    at_most_two Less = omega arith
    at_most_two Equal = omega arith
    at_most_two Greater = omega arith

indices_rise : (k : List ℕ) (fs : List Field) → IsInOrder (map member fs)
    → IsNonDecreasingBy (λ f. ordering_index (key_cmp f.name k)) fs
indices_rise k fs o =
    IsNonDecreasingBy-from_all_adjacent (λ f. ordering_index (key_cmp f.name k)) fs
    (λ i d h. index_below (get_or fs i d).name (get_or fs (i + 1) d).name k _ refl (next_above fs i d o h))

no_field : Field
no_field = record { name = []; value = Null }

-- what a binary search for the key answers is its place
pub is_place : (k : List ℕ) (fs : List Field) (r : Result ℕ ℕ) → IsInOrder (map member fs)
    → IsSearchInRange r (length fs) → IsBinarySearchResult (λ f. key_cmp f.name k) fs r → IsPlace k (map member fs) r
is_place k fs (Ok i) o h found =
    (omega (arith, length-map fs member), λ j. stands_here k fs i no_field o h (found no_field) j)
is_place k fs (Err i) o h found =
    let parts = found (indices_rise k fs o) in
    (omega (arith, length-map fs member), λ j. comes_before k fs i h parts.0 parts.1 j)

-- ---- the members stay members

all_put_by : (o : Ordering) (k : List ℕ) (j : Json) (m : Member) (ms : List Member) (P : List ℕ → Type 0) → P k
    → P m.0 → AllByRecursion P (keys ms) → AllByRecursion P (keys (put k j ms))
    → AllByRecursion P (keys (match_ordering o ((k, j) ∷ m ∷ ms) ((k, j) ∷ ms) (m ∷ put k j ms)))
all_put_by Less k j m ms P p q h r = (p, (q, h))
all_put_by Equal k j m ms P p q h r = (p, h)
all_put_by Greater k j m ms P p q h r = (q, r)

all_put : (k : List ℕ) (j : Json) (ms : List Member) (P : List ℕ → Type 0) → P k → AllByRecursion P (keys ms)
    → AllByRecursion P (keys (put k j ms))
all_put k j [] P p h = (p, tt)
all_put k j (m ∷ ms) P p h = all_put_by (key_cmp k m.0) k j m ms P p h.0 h.1 (all_put k j ms P p h.1)

all_after : (a b : List ℕ) (ms : List Member) → key_cmp a b ≡ Less
    → AllByRecursion (λ y. key_cmp b y ≡ Less) (keys ms) → AllByRecursion (λ y. key_cmp a y ≡ Less) (keys ms)
all_after a b [] l h = tt
all_after a b (m ∷ ms) l h = (
  nat_list_cmp_total.trans (encode_utf8_all a) (encode_utf8_all b) (encode_utf8_all m.0) l h.0,
  all_after a b ms l h.1,
)

all_same : (a b : List ℕ) (ms : List Member) → key_cmp a b ≡ Equal
    → AllByRecursion (λ y. key_cmp b y ≡ Less) (keys ms) → AllByRecursion (λ y. key_cmp a y ≡ Less) (keys ms)
all_same a b [] l h = tt
all_same a b (m ∷ ms) l h = (
  nat_list_cmp_total.congr (encode_utf8_all a) (encode_utf8_all b) (encode_utf8_all m.0) l
      ∙ h.0,
  all_same a b ms l h.1,
)

in_order_by : (o : Ordering) (k : List ℕ) (j : Json) (m : Member) (ms : List Member) → key_cmp k m.0 ≡ o
    → IsInOrder (m ∷ ms) → IsInOrder (put k j ms)
    → IsInOrder (match_ordering o ((k, j) ∷ m ∷ ms) ((k, j) ∷ ms) (m ∷ put k j ms))
unfolding IsStrictlySortedBy
in_order_by Less k j m ms e h r = ((e, all_after k m.0 ms e h.0), h)
in_order_by Equal k j m ms e h r = (all_same k m.0 ms e h.0, h.1)
in_order_by Greater k j m ms e h r = (
  all_put k j ms _ (nat_list_cmp_total.antisymm (encode_utf8_all m.0) (encode_utf8_all k) ∙ ap ordering_reverse e)
      h.0,
  r,
)

pub in_order : (k : List ℕ) (j : Json) (ms : List Member) → IsInOrder ms → IsInOrder (put k j ms)
unfolding IsStrictlySortedBy
in_order k j [] h = (tt, tt)
in_order k j (m ∷ ms) h = in_order_by (key_cmp k m.0) k j m ms refl h (in_order k j ms h.1)

orderly_by : (o : Ordering) (k : List ℕ) (j : Json) (m : Member) (ms : List Member) → IsOrderly j
    → PairsAreOrderly (pairs (m ∷ ms)) → PairsAreOrderly (pairs (put k j ms))
    → PairsAreOrderly (pairs (match_ordering o ((k, j) ∷ m ∷ ms) ((k, j) ∷ ms) (m ∷ put k j ms)))
orderly_by Less k j m ms p h r = (p, h)
orderly_by Equal k j m ms p h r = (p, h.1)
orderly_by Greater k j m ms p h r = (h.0, r)

orderly : (k : List ℕ) (j : Json) (ms : List Member) → IsOrderly j → PairsAreOrderly (pairs ms)
    → PairsAreOrderly (pairs (put k j ms))
orderly k j [] p h = (p, tt)
orderly k j (m ∷ ms) p h = orderly_by (key_cmp k m.0) k j m ms p h (orderly k j ms p h.1)

members_nesting-put_by : (o : Ordering) (k : List ℕ) (j : Json) (m : Member) (ms : List Member) → nesting j ≤ 119
    → members_nesting (m ∷ ms) ≤ 119 → members_nesting (put k j ms) ≤ 119
    → members_nesting (match_ordering o ((k, j) ∷ m ∷ ms) ((k, j) ∷ ms) (m ∷ put k j ms)) ≤ 119
members_nesting-put_by Less k j m ms p h r = omega arith
members_nesting-put_by Equal k j m ms p h r = omega arith
members_nesting-put_by Greater k j m ms p h r = omega arith

pub members_nesting-put : (k : List ℕ) (j : Json) (ms : List Member) → nesting j ≤ 119 → members_nesting ms ≤ 119
    → members_nesting (put k j ms) ≤ 119
members_nesting-put k j [] p h = omega arith
members_nesting-put k j (m ∷ ms) p h =
    members_nesting-put_by (key_cmp k m.0) k j m ms p h (members_nesting-put k j ms p (omega arith))

-- members stay members when one is put among them
pub AreMembers-put : (k : List ℕ) (j : Json) (ms : List Member) → AreMembers ms → IsOrderly j → nesting j ≤ 119
    → AreMembers (put k j ms)
AreMembers-put k j ms h o n = (in_order k j ms h.0, orderly k j ms o h.1, members_nesting-put k j ms n h.2)

-- ---- a value in place of another

keys-replaced : (ms : List Member) (i : ℕ) (j : Json) → keys (replaced ms i j) ≡ keys ms
keys-replaced [] i j = refl
keys-replaced (m ∷ ms) zero j = refl
keys-replaced (m ∷ ms) (suc i) j = ap (λ r. m.0 ∷ r) (keys-replaced ms i j)

PairsAreOrderly-replaced : (ms : List Member) (i : ℕ) (j : Json) → IsOrderly j → PairsAreOrderly (pairs ms)
    → PairsAreOrderly (pairs (replaced ms i j))
PairsAreOrderly-replaced [] i j o h = h
PairsAreOrderly-replaced (m ∷ ms) zero j o h = (o, h.1)
PairsAreOrderly-replaced (m ∷ ms) (suc i) j o h = (h.0, PairsAreOrderly-replaced ms i j o h.1)

pub members_nesting-replaced : (ms : List Member) (i : ℕ) (j : Json) → i < length ms
    → members_nesting (replaced ms i j) ≡ max (others_nesting ms i) (nesting j)
members_nesting-replaced [] i j h = absurd (omega arith)
members_nesting-replaced (m ∷ ms) zero j h = omega arith
members_nesting-replaced (m ∷ ms) (suc i) j h = omega (arith, members_nesting-replaced ms i j (omega arith))

pub AreMembers-replaced : (ms : List Member) (i : ℕ) (j : Json) → AreMembers ms → IsOrderly j
    → members_nesting (replaced ms i j) ≤ 119 → AreMembers (replaced ms i j)
AreMembers-replaced ms i j h o n =
    (subst (IsStrictlySortedBy key_cmp) (sym (keys-replaced ms i j)) h.0, PairsAreOrderly-replaced ms i j o h.1, n)

pub exchanged : (fs : List Field) (i : ℕ) (f : Field) (v : Value) → i < length fs → f ≡ get_or fs i f
    → map member (set fs i (record { name = f.name; value = v })) ≡ replaced (map member fs) i (json v)
exchanged [] i f v h e = absurd (omega arith)
exchanged (g ∷ fs) zero f v h e = ap (λ (n : List ℕ). (n, json v) ∷ map member fs) (ap (λ (x : Field). x.name) e)
exchanged (g ∷ fs) (suc i) f v h e = ap (λ r. member g ∷ r) (exchanged fs i f v (omega arith) e)

pub members_nesting-others : (fs : List Field) (i : ℕ) (f : Field) → i < length fs → f ≡ get_or fs i f
    → members_nesting (map member fs) ≡ max (others_nesting (map member fs) i) (nesting (json f.value))
members_nesting-others [] i f h e = absurd (omega arith)
members_nesting-others (g ∷ fs) zero f h e = let same = ap (λ (x : Field). nesting (json x.value)) e in omega arith
members_nesting-others (g ∷ fs) (suc i) f h e = omega (arith, members_nesting-others fs i f (omega arith) e)

-- ---- a member more

map-drop : {A B : Type 0} (f : A → B) (xs : List A) (i : ℕ) → map f (drop i xs) ≡ drop i (map f xs)
map-drop f [] zero = refl
map-drop f [] (suc i) = refl
map-drop f (x ∷ xs) zero = refl
map-drop f (x ∷ xs) (suc i) = map-drop f xs i

members_nesting-insert : (ms : List Member) (i : ℕ) (m : Member) → i ≤ length ms
    → members_nesting (insert ms i m) ≡ max (members_nesting ms) (nesting m.1)
members_nesting-insert [] zero m h = omega arith
members_nesting-insert [] (suc i) m h = absurd (omega arith)
members_nesting-insert (n ∷ ms) zero m h = omega arith
members_nesting-insert (n ∷ ms) (suc i) m h = omega (arith, members_nesting-insert ms i m (omega arith))

PairsAreOrderly-insert : (ms : List Member) (i : ℕ) (m : Member) → i ≤ length ms → IsOrderly m.1
    → PairsAreOrderly (pairs ms) → PairsAreOrderly (pairs (insert ms i m))
PairsAreOrderly-insert [] zero m h o p = (o, tt)
PairsAreOrderly-insert [] (suc i) m h o p = absurd (omega arith)
PairsAreOrderly-insert (n ∷ ms) zero m h o p = (o, p)
PairsAreOrderly-insert (n ∷ ms) (suc i) m h o p = (p.0, PairsAreOrderly-insert ms i m (omega arith) o p.1)

-- what the members keep of their depth and their rules when one is inserted
pub inserted : (fs new : List Field) (ms : List Member) (i : ℕ) (f : Field) (depth : ℕ) → new ≡ insert fs i f
    → map member fs ≡ ms → i ≤ length ms → IsOrderly (json f.value) → nesting (json f.value) ≤ 119 → AreMembers ms
    → IsInOrder (insert ms i (member f))
    → depth ≡ members_nesting ms → (max depth (nesting (json f.value)) ≡ members_nesting (map member new))
    × AreMembers (map member new)
inserted fs new ms i f depth n all h o deep members ordered d =
    let gives : map member new ≡ insert ms i (member f) =
    rw n (map-insert member fs i f ∙ ap (λ xs. insert xs i (member f)) all) in
    let nests : members_nesting (map member new) ≡ max (members_nesting ms) (nesting (json f.value)) =
    rw gives (members_nesting-insert ms i (member f) h) in (
      omega arith,
      (
        subst IsInOrder (sym gives) ordered,
        subst (λ xs. PairsAreOrderly (pairs xs)) (sym gives) (PairsAreOrderly-insert ms i (member f) h o members.1),
        omega arith,
      ),
    )
