-- Two objects united member by member, both in the order of their keys.
use Rattle.std.proofs.Common.{◌≡◌, ◌<◌, ℕ, Bool, true, false, List, [], ◌∷◌, ◌++◌, length, map, append_assoc}
use Rattle.std.proofs.Common.{append-nil, Some, None, option_and_then, Ordering, Less, Equal, Greater}
use Rattle.std.proofs.Common.{encode_utf8_all, bytes_eq, refl, ap, sym, ◌∙◌, subst, arith}
use Rattle.std.proofs.lemmas.Bool.{false_from_ne_true}
use Rattle.std.proofs.lemmas.Cmp.{nat_list_cmp_total}
use Rattle.std.proofs.lemmas.Slice.Eq.{bytes_eq-Decides}
use Rattle.std.specs.Ordering.{ordering_reverse, is_lt}
use Rattle.std.specs.List.{AllByRecursion}
use Rattle.std.specs.List.Sorted.{IsStrictlySortedBy}
use Rattle.arm_value.proofs.MemberLemmas.{front_stays, put_each-append}
use Rattle.arm_value.specs.Json.{Json, Pairs, no_pairs, pair, Member, keys, pair_keys, key_cmp, put, put_each}
use Rattle.arm_value.specs.Json.{IsInOrder}
use Rattle.arm_value.proofs.SetLemmas.{equal_keys, in_order}
use Rattle.arm_value.specs.View.{member}
use Rattle.arm_value.specs.declared.value.Field.{Field}
use Rattle.arm_value.proofs.JsonLemmas.{IsInOrder-nil}
use Rattle.function_numbers.specs.Kinds.{members_of}
use Rattle.function_lists.specs.Members.{value_at, under, updated, united}
use Rattle.function_lists.specs.Merge.{starts_below, below, from, object_first, without_first}
use Rattle.foundation.proofs.Lists.{map-push}

-- ---- keys that differ

pub above : (k l : List ℕ) → key_cmp k l ≡ Less → key_cmp l k ≡ Greater
above k l h = nat_list_cmp_total.antisymm (encode_utf8_all l) (encode_utf8_all k) ∙ ap ordering_reverse h

pub beneath : (k l : List ℕ) → key_cmp k l ≡ Greater → key_cmp l k ≡ Less
beneath k l h = nat_list_cmp_total.antisymm (encode_utf8_all l) (encode_utf8_all k) ∙ ap ordering_reverse h

pub alike : (k l : List ℕ) → key_cmp k l ≡ Equal → key_cmp l k ≡ Equal
alike k l h = nat_list_cmp_total.antisymm (encode_utf8_all l) (encode_utf8_all k) ∙ ap ordering_reverse h

none_below_itself : (o : Ordering) → o ≡ ordering_reverse o → o ≡ Less → ⊥
none_below_itself Less e h = cc
none_below_itself Equal e h = cc
none_below_itself Greater e h = cc

-- a key that is below another differs from it, whichever comes first
pub differs : (k l : List ℕ) → key_cmp k l ≡ Less → bytes_eq k l ≡ false
differs k l h = false_from_ne_true (bytes_eq k l) (λ t.
    none_below_itself (key_cmp k k) (nat_list_cmp_total.antisymm (encode_utf8_all k) (encode_utf8_all k))
    (ap (key_cmp k) ((bytes_eq-Decides k l).0 t) ∙ h))

pub differs_from : (k l : List ℕ) → key_cmp k l ≡ Less → bytes_eq l k ≡ false
differs_from k l h = false_from_ne_true (bytes_eq l k) (λ t.
    none_below_itself (key_cmp k k) (nat_list_cmp_total.antisymm (encode_utf8_all k) (encode_utf8_all k))
    (ap (key_cmp k) (sym ((bytes_eq-Decides l k).0 t)) ∙ h))

pub same_key : (k l : List ℕ) → key_cmp k l ≡ Equal → bytes_eq k l ≡ true
same_key k l h = (bytes_eq-Decides k l).1 (equal_keys k l h)

-- what is above a key is above those below it, and above those equal to it
pub after : (a b : List ℕ) (ks : List (List ℕ)) → key_cmp a b ≡ Less → AllByRecursion (λ y. key_cmp b y ≡ Less) ks
    → AllByRecursion (λ y. key_cmp a y ≡ Less) ks
after a b [] l h = tt
after a b (k ∷ ks) l h = (
  nat_list_cmp_total.trans (encode_utf8_all a) (encode_utf8_all b) (encode_utf8_all k) l h.0,
  after a b ks l h.1,
)

pub same_after : (a b : List ℕ) (ks : List (List ℕ)) → key_cmp a b ≡ Equal
    → AllByRecursion (λ y. key_cmp b y ≡ Less) ks → AllByRecursion (λ y. key_cmp a y ≡ Less) ks
same_after a b [] l h = tt
same_after a b (k ∷ ks) l h = (
  nat_list_cmp_total.congr (encode_utf8_all a) (encode_utf8_all b) (encode_utf8_all k) l
      ∙ h.0,
  same_after a b ks l h.1,
)

-- ---- one member of either object

keys_updated : (ms : List Member) (ns : Pairs) → keys (updated ms ns) ≡ pair_keys ns
keys_updated ms no_pairs = refl
keys_updated ms (pair k j ns) = ap (λ r. k ∷ r) (keys_updated ms ns)

updated_above : (k : List ℕ) (ms : List Member) (ns : Pairs) → AllByRecursion (λ y. key_cmp k y ≡ Less) (pair_keys ns)
    → AllByRecursion (λ y. key_cmp k y ≡ Less) (keys (updated ms ns))
updated_above k ms ns h = subst (AllByRecursion (λ y. key_cmp k y ≡ Less)) (sym (keys_updated ms ns)) h

absent : (k : List ℕ) (ms : List Member) → AllByRecursion (λ y. key_cmp k y ≡ Less) (keys ms) → value_at k ms ≡ None
unfolding value_at
absent k [] h = refl
absent k (m ∷ ms) h = rw (differs k m.0 h.0) (absent k ms h.1)

at_later : (k : List ℕ) (m : Member) (ms : List Member) → key_cmp m.0 k ≡ Less → value_at k (m ∷ ms) ≡ value_at k ms
unfolding value_at
at_later k m ms h = rw (differs_from m.0 k h) refl

at_first : (k : List ℕ) (m : Member) (ms : List Member) → bytes_eq k m.0 ≡ true → value_at k (m ∷ ms) ≡ Some m.1
unfolding value_at
at_first k m ms h = rw h refl

at_none : (k : List ℕ) → value_at k [] ≡ None
unfolding value_at
at_none k = refl

-- a first member below the second's keys meets none of them
updated_skips : (m : Member) (ms : List Member) (ns : Pairs)
    → AllByRecursion (λ y. key_cmp m.0 y ≡ Less) (pair_keys ns) → updated (m ∷ ms) ns ≡ updated ms ns
updated_skips m ms no_pairs h = refl
updated_skips m ms (pair k j ns) h = λ i. (k, under (option_and_then members_of (at_later k m ms h.0 i)) j)
    ∷ updated_skips m ms ns h.1 i

-- the first's members, among which those of the second are put
abbrev pub merged : List Member → Pairs → List Member
merged ms ns = put_each ms (updated ms ns)

below-nil : (k : List ℕ) → below k [] ≡ []
unfolding below
below-nil k = refl

from-nil : (k : List ℕ) → from k [] ≡ []
unfolding from
from-nil k = refl

below-less : (k : List ℕ) (m : Member) (ms : List Member) → key_cmp m.0 k ≡ Less → below k (m ∷ ms) ≡ m ∷ below k ms
unfolding below
below-less k m ms h = rw h refl

from-less : (k : List ℕ) (m : Member) (ms : List Member) → key_cmp m.0 k ≡ Less → from k (m ∷ ms) ≡ from k ms
unfolding from
from-less k m ms h = rw h refl

pub below-stops : (k : List ℕ) (m : Member) (ms : List Member) → is_lt (key_cmp m.0 k) ≡ false → below k (m ∷ ms) ≡ []
unfolding below
below-stops k m ms h = rw h refl

pub from-stops : (k : List ℕ) (m : Member) (ms : List Member) → is_lt (key_cmp m.0 k) ≡ false → from k (m ∷ ms) ≡ m ∷ ms
unfolding from
from-stops k m ms h = rw h refl

-- what is merged before and at a key of the second, and what is merged after it
abbrev Steps : List ℕ → Json → List Member → Pairs → Type 0
Steps k j ms ns = merged ms (pair k j ns) ≡ below k ms ++ (k, under (object_first k (from k ms)) j)
    ∷ merged (without_first k (from k ms)) ns

step_less : (k : List ℕ) (j : Json) (m : Member) (ms : List Member) (ns : Pairs) → key_cmp m.0 k ≡ Less
    → AllByRecursion (λ y. key_cmp k y ≡ Less) (pair_keys ns) → Steps k j ms ns → Steps k j (m ∷ ms) ns
step_less k j m ms ns e h rest =
    let over : AllByRecursion (λ y. key_cmp m.0 y ≡ Less) (pair_keys (pair k j ns)) =
    (e, after m.0 k (pair_keys ns) e h) in
    ap (put_each (m ∷ ms)) (updated_skips m ms (pair k j ns) over)
    ∙ front_stays m ms (updated ms (pair k j ns)) (updated_above m.0 ms (pair k j ns) over) ∙ ap (λ r. m ∷ r) rest
    ∙ sym (λ i. below-less k m ms e i ++ (k, under (object_first k (from-less k m ms e i)) j)
    ∷ merged (without_first k (from-less k m ms e i)) ns)

step_equal : (k : List ℕ) (j : Json) (m : Member) (ms : List Member) (ns : Pairs) → key_cmp m.0 k ≡ Equal
    → AllByRecursion (λ y. key_cmp k y ≡ Less) (pair_keys ns) → Steps k j (m ∷ ms) ns
step_equal k j m ms ns e h =
    let over : AllByRecursion (λ y. key_cmp m.0 y ≡ Less) (pair_keys ns) = same_after m.0 k (pair_keys ns) e h in
    let here : bytes_eq k m.0 ≡ true = same_key k m.0 (alike m.0 k e) in
    let value = under (members_of m.1) j in
    let none : is_lt (key_cmp m.0 k) ≡ false = ap is_lt e in
    let placed : put k value (m ∷ ms) ≡ (k, value) ∷ ms = rw (alike m.0 k e) refl in
    let left : put_each (put k value (m ∷ ms)) (updated (m ∷ ms) ns) ≡ (k, value) ∷ merged ms ns =
    (λ i. put_each (placed i) (updated_skips m ms ns over i))
    ∙ front_stays (k, value) ms (updated ms ns) (updated_above k ms ns h) in
    let right : (k, under (object_first k (m ∷ ms)) j) ∷ merged (without_first k (m ∷ ms)) ns ≡ (k, value)
    ∷ merged ms ns = rw here refl in
    ap (λ o. put_each (put k (under (option_and_then members_of o) j) (m ∷ ms)) (updated (m ∷ ms) ns))
    (at_first k m ms here) ∙ left ∙ sym right
    ∙ sym (λ i. below-stops k m ms none i ++ (k, under (object_first k (from-stops k m ms none i)) j)
    ∷ merged (without_first k (from-stops k m ms none i)) ns)

step_greater : (k : List ℕ) (j : Json) (m : Member) (ms : List Member) (ns : Pairs) → key_cmp m.0 k ≡ Greater
    → AllByRecursion (λ y. key_cmp m.0 y ≡ Less) (keys ms) → AllByRecursion (λ y. key_cmp k y ≡ Less) (pair_keys ns)
    → Steps k j (m ∷ ms) ns
step_greater k j m ms ns e o h =
    let less : key_cmp k m.0 ≡ Less = beneath m.0 k e in
    let none : is_lt (key_cmp m.0 k) ≡ false = ap is_lt e in
    let placed : put k j (m ∷ ms) ≡ (k, j) ∷ m ∷ ms = rw less refl in
    let left : put_each (put k j (m ∷ ms)) (updated (m ∷ ms) ns) ≡ (k, j) ∷ merged (m ∷ ms) ns =
    ap (λ r. put_each r (updated (m ∷ ms) ns)) placed
    ∙ front_stays (k, j) (m ∷ ms) (updated (m ∷ ms) ns) (updated_above k (m ∷ ms) ns h) in
    let right : (k, under (object_first k (m ∷ ms)) j) ∷ merged (without_first k (m ∷ ms)) ns ≡ (k, j)
    ∷ merged (m ∷ ms) ns = rw (differs k m.0 less) refl in
    ap (λ v. put_each (put k (under (option_and_then members_of v) j) (m ∷ ms)) (updated (m ∷ ms) ns))
    (absent k (m ∷ ms) (less, after k m.0 (keys ms) less o)) ∙ left ∙ sym right
    ∙ sym (λ i. below-stops k m ms none i ++ (k, under (object_first k (from-stops k m ms none i)) j)
    ∷ merged (without_first k (from-stops k m ms none i)) ns)

step_by : (o : Ordering) (k : List ℕ) (j : Json) (m : Member) (ms : List Member) (ns : Pairs) → key_cmp m.0 k ≡ o
    → AllByRecursion (λ y. key_cmp m.0 y ≡ Less) (keys ms) → AllByRecursion (λ y. key_cmp k y ≡ Less) (pair_keys ns)
    → Steps k j ms ns → Steps k j (m ∷ ms) ns
step_by Less k j m ms ns e o h rest = step_less k j m ms ns e h rest
step_by Equal k j m ms ns e o h rest = step_equal k j m ms ns e h
step_by Greater k j m ms ns e o h rest = step_greater k j m ms ns e o h

step_empty : (k : List ℕ) (j : Json) (ns : Pairs) → AllByRecursion (λ y. key_cmp k y ≡ Less) (pair_keys ns)
    → Steps k j [] ns
step_empty k j ns h =
    ap (λ v. put_each [] ((k, under (option_and_then members_of v) j) ∷ updated [] ns)) (at_none k)
    ∙ front_stays (k, j) [] (updated [] ns) (updated_above k [] ns h)
    ∙ sym (λ i. below-nil k i ++ (k, under (object_first k (from-nil k i)) j)
    ∷ merged (without_first k (from-nil k i)) ns)

pub steps : (k : List ℕ) (j : Json) (ms : List Member) (ns : Pairs) → IsInOrder ms
    → AllByRecursion (λ y. key_cmp k y ≡ Less) (pair_keys ns)
    → merged ms (pair k j ns) ≡ below k ms ++ (k, under (object_first k (from k ms)) j)
    ∷ merged (without_first k (from k ms)) ns
unfolding IsStrictlySortedBy
steps k j [] ns o h = step_empty k j ns h
steps k j (m ∷ ms) ns o h = step_by (key_cmp m.0 k) k j m ms ns refl o.0 h (steps k j ms ns o.1 h)

-- ---- the start and the end

pub put_each-ordered : (ms : List Member) → IsInOrder ms → put_each [] ms ≡ ms
unfolding IsStrictlySortedBy
put_each-ordered [] o = refl
put_each-ordered (m ∷ ms) o = front_stays m [] ms o.0 ∙ ap (λ r. m ∷ r) (put_each-ordered ms o.1)

pub starts : (ms : List Member) (ns : Pairs) → IsInOrder ms → merged ms ns ≡ united ms ns
starts ms ns o =
    sym (put_each-append [] ms (updated ms ns) ∙ ap (λ r. put_each r (updated ms ns)) (put_each-ordered ms o))

pub put_each_in_order : (ms ns : List Member) → IsInOrder ms → IsInOrder (put_each ms ns)
put_each_in_order ms [] o = o
put_each_in_order ms (n ∷ ns) o = put_each_in_order (put n.0 n.1 ms) ns (in_order n.0 n.1 ms o)

pub united_in_order : (ms : List Member) (ns : Pairs) → IsInOrder (united ms ns)
united_in_order ms ns = put_each_in_order [] (ms ++ updated ms ns) IsInOrder-nil

-- ---- what is left stays in order

from_by : (b : Bool) (k : List ℕ) (m : Member) (ms : List Member) → is_lt (key_cmp m.0 k) ≡ b → IsInOrder (m ∷ ms)
    → IsInOrder (from k ms) → IsInOrder (from k (m ∷ ms))
unfolding from
from_by true k m ms e o rest = rw e rest
from_by false k m ms e o rest = rw e o

pub from_in_order : (k : List ℕ) (ms : List Member) → IsInOrder ms → IsInOrder (from k ms)
unfolding IsStrictlySortedBy
from_in_order k [] o = subst IsInOrder (sym (from-nil k)) o
from_in_order k (m ∷ ms) o = from_by (is_lt (key_cmp m.0 k)) k m ms refl o (from_in_order k ms o.1)

without_by : (b : Bool) (k : List ℕ) (m : Member) (ms : List Member) → bytes_eq k m.0 ≡ b → IsInOrder (m ∷ ms)
    → IsInOrder (without_first k (m ∷ ms))
unfolding IsStrictlySortedBy
without_by true k m ms e o = rw e o.1
without_by false k m ms e o = rw e o

pub without_in_order : (k : List ℕ) (ms : List Member) → IsInOrder ms → IsInOrder (without_first k ms)
without_in_order k [] o = o
without_in_order k (m ∷ ms) o = without_by (bytes_eq k m.0) k m ms refl o

-- ---- members that are moved from the front

below-on : (k : List ℕ) (m : Member) (ms : List Member) → is_lt (key_cmp m.0 k) ≡ true
    → below k (m ∷ ms) ≡ m ∷ below k ms
unfolding below
below-on k m ms h = rw h refl

from-on : (k : List ℕ) (m : Member) (ms : List Member) → is_lt (key_cmp m.0 k) ≡ true → from k (m ∷ ms) ≡ from k ms
unfolding from
from-on k m ms h = rw h refl

-- the rest of a list that has a first element
abbrev pub IsRest : List Field → List Field → Type 0
IsRest fs rest = (x : Field) (xs : List Field) → fs ≡ x ∷ xs → rest ≡ xs

-- one list and the first element of another
abbrev pub HasFirst : List Field → List Field → List Field → Type 0
HasFirst fs list more = (x : Field) (xs : List Field) → fs ≡ x ∷ xs → more ≡ list ++ x ∷ []

pub rest_is_shorter : (k : List ℕ) (fs rest : List Field) → starts_below k (map member fs) ≡ true → IsRest fs rest
    → length rest < length fs
rest_is_shorter k [] rest t h = absurd (cc)
rest_is_shorter k (f ∷ fs) rest t h = omega (arith, ap length (h f fs refl))

pub moved_more : (k : List ℕ) (fs rest list more : List Field) (all : List Member)
    → starts_below k (map member fs) ≡ true → IsRest fs rest → HasFirst fs list more
    → map member list ++ below k (map member fs) ≡ all → map member more ++ below k (map member rest) ≡ all
moved_more k [] rest list more all t h g before = absurd (cc)
moved_more k (f ∷ fs) rest list more all t h g before =
    (λ i. map member (g f fs refl i) ++ below k (map member (h f fs refl i)))
    ∙ ap (λ r. r ++ below k (map member fs)) (map-push member list f)
    ∙ append_assoc (map member list) (member f ∷ []) (below k (map member fs))
    ∙ ap (λ r. map member list ++ r) (sym (below-on k (member f) (map member fs) t)) ∙ before

pub left_more : (k : List ℕ) (fs rest : List Field) (all : List Member) → starts_below k (map member fs) ≡ true
    → IsRest fs rest → from k (map member fs) ≡ all → from k (map member rest) ≡ all
left_more k [] rest all t h before = absurd (cc)
left_more k (f ∷ fs) rest all t h before = ap (λ r. from k (map member r)) (h f fs refl)
    ∙ sym (from-on k (member f) (map member fs) t) ∙ before

below-none : (k : List ℕ) (ms : List Member) → starts_below k ms ≡ false → below k ms ≡ []
below-none k [] t = below-nil k
below-none k (m ∷ ms) t = below-stops k m ms t

from-all : (k : List ℕ) (ms : List Member) → starts_below k ms ≡ false → from k ms ≡ ms
from-all k [] t = from-nil k
from-all k (m ∷ ms) t = from-stops k m ms t

pub moved_all : (k : List ℕ) (list ms all : List Member) → starts_below k ms ≡ false → list ++ below k ms ≡ all
    → list ≡ all
moved_all k list ms all t before = sym (append-nil list) ∙ ap (λ r. list ++ r) (sym (below-none k ms t)) ∙ before

pub left_all : (k : List ℕ) (ms all : List Member) → starts_below k ms ≡ false → from k ms ≡ all → ms ≡ all
left_all k ms all t before = sym (from-all k ms t) ∙ before
