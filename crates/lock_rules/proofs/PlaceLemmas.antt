-- Locks in the order of their places, with one more and with one less.
use Rattle.std.proofs.Common.{◌≡◌, ◌<◌, ◌≤◌, ℕ, zero, suc, length, get_or, take, drop, List, [], ◌∷◌, ◌++◌, map, refl}
use Rattle.std.proofs.Common.{sym, ap, ◌∙◌, arith, subst, Some, None, Less, Equal, Greater, Ordering, encode_utf8_all}
use Rattle.std.proofs.Math.ListN.{set}
use Rattle.std.specs.Ordering.{ordering_reverse, ordering_then, match_ordering}
use Rattle.std.specs.Cmp.{IsTotalOrder}
use Rattle.std.specs.List.{AllByRecursion, insert, remove}
use Rattle.std.specs.List.Sorted.{IsStrictlySortedBy}
use Rattle.std.proofs.lemmas.Cmp.{nat_list_cmp_total, on_total, then_total}
use Rattle.std.proofs.lemmas.List.{take-map, drop-map, map-append}
use Rattle.std.proofs.lemmas.Map.Lookups.{exact_bytes}
use Rattle.std.proofs.lemmas.Str.{encodes_same}
use Rattle.lock_rules.specs.Texts.{text_cmp}
use Rattle.lock_rules.specs.Places.{place_of, place_cmp, AreInOrder, find, put, without}
use Rattle.lock_rules.specs.Searches.{IsAbove, IsBelowFirst}
use Rattle.lock_rules.specs.declared.lock.Lock.{Lock}
use Rattle.lock_rules.specs.declared.place.Place.{Place}

-- ---- the order of places

text_total : IsTotalOrder text_cmp
unfolding text_cmp
text_total = on_total encode_utf8_all nat_list_cmp_total

place_total : IsTotalOrder place_cmp
unfolding place_cmp
place_total = then_total (on_total (λ (p : Place). p.scope) text_total) (on_total (λ (p : Place). p.name) text_total)

text_exact : (a b : List ℕ) → text_cmp a b ≡ Equal → a ≡ b
unfolding text_cmp
text_exact a b e = encodes_same a b (exact_bytes (encode_utf8_all a) (encode_utf8_all b) e)

then_first : (o p : Ordering) → ordering_then o p ≡ Equal → o ≡ Equal
then_first Less p e = absurd (cc)
then_first Equal p e = refl
then_first Greater p e = absurd (cc)

then_second : (o p : Ordering) → ordering_then o p ≡ Equal → p ≡ Equal
then_second Less p e = absurd (cc)
then_second Equal p e = e
then_second Greater p e = absurd (cc)

same_place : (a b : Place) → a.scope ≡ b.scope → a.name ≡ b.name → a ≡ b
same_place a b s n = λ i. record { scope = s i; name = n i }

place_exact : (a b : Place) → place_cmp a b ≡ Equal → a ≡ b
unfolding place_cmp
place_exact a b e =
    same_place a b (text_exact a.scope b.scope (then_first (text_cmp a.scope b.scope) (text_cmp a.name b.name) e))
    (text_exact a.name b.name (then_second (text_cmp a.scope b.scope) (text_cmp a.name b.name) e))

place_before : (a b : Place) → place_cmp a b ≡ Greater → place_cmp b a ≡ Less
place_before a b e = place_total.antisymm b a ∙ ap ordering_reverse e

-- ---- the order stays

all_put_by : (o : Ordering) (lock other : Lock) (locks : List Lock) (P : Place → Type 0) → P (place_of lock)
    → P (place_of other) → AllByRecursion P (map place_of locks) → AllByRecursion P (map place_of (put lock locks))
    → AllByRecursion P
    (map place_of (match_ordering o (lock ∷ other ∷ locks) (lock ∷ locks) (other ∷ put lock locks)))
all_put_by Less lock other locks P p q h g = (p, (q, h))
all_put_by Equal lock other locks P p q h g = (p, h)
all_put_by Greater lock other locks P p q h g = (q, g)

all_put : (lock : Lock) (locks : List Lock) (P : Place → Type 0) → P (place_of lock)
    → AllByRecursion P (map place_of locks) → AllByRecursion P (map place_of (put lock locks))
all_put lock [] P p h = (p, tt)
all_put lock (other ∷ locks) P p h =
    all_put_by (place_cmp (place_of lock) (place_of other)) lock other locks P p h.0 h.1 (all_put lock locks P p h.1)

AllAbove : Place → List Place → Type 0
AllAbove place others = AllByRecursion (λ other. place_cmp place other ≡ Less) others

all_further : (a b : Place) (others : List Place) → place_cmp a b ≡ Less → AllAbove b others → AllAbove a others
unfolding AllAbove
all_further a b [] l h = tt
all_further a b (c ∷ cs) l h = (place_total.trans a b c l h.0, all_further a b cs l h.1)

in_order_by : (o : Ordering) (lock other : Lock) (locks : List Lock) → place_cmp (place_of lock) (place_of other) ≡ o
    → AreInOrder (other ∷ locks) → AreInOrder (put lock locks)
    → AreInOrder (match_ordering o (lock ∷ other ∷ locks) (lock ∷ locks) (other ∷ put lock locks))
unfolding IsStrictlySortedBy AllAbove
in_order_by Less lock other locks e h g =
    ((e, all_further (place_of lock) (place_of other) (map place_of locks) e h.0), h)
in_order_by Equal lock other locks e h g =
    (subst (λ p. AllAbove p (map place_of locks)) (sym (place_exact (place_of lock) (place_of other) e)) h.0, h.1)
in_order_by Greater lock other locks e h g = (
  all_put lock locks (λ p. place_cmp (place_of other) p ≡ Less) (place_before (place_of lock) (place_of other) e) h.0,
  g,
)

pub in_order-put : (lock : Lock) (locks : List Lock) → AreInOrder locks → AreInOrder (put lock locks)
unfolding IsStrictlySortedBy
in_order-put lock [] h = (tt, tt)
in_order-put lock (other ∷ locks) h =
    in_order_by (place_cmp (place_of lock) (place_of other)) lock other locks refl h (in_order-put lock locks h.1)

all_without_by : (o : Ordering) (place : Place) (lock : Lock) (locks : List Lock) (P : Place → Type 0)
    → P (place_of lock) → AllByRecursion P (map place_of locks) → AllByRecursion P (map place_of (without place locks))
    → AllByRecursion P (map place_of (match_ordering o (lock ∷ locks) locks (lock ∷ without place locks)))
all_without_by Less place lock locks P p h g = (p, h)
all_without_by Equal place lock locks P p h g = h
all_without_by Greater place lock locks P p h g = (p, g)

all_without : (place : Place) (locks : List Lock) (P : Place → Type 0) → AllByRecursion P (map place_of locks)
    → AllByRecursion P (map place_of (without place locks))
all_without place [] P h = tt
all_without place (lock ∷ locks) P h =
    all_without_by (place_cmp place (place_of lock)) place lock locks P h.0 h.1 (all_without place locks P h.1)

without_by : (o : Ordering) (place : Place) (lock : Lock) (locks : List Lock) → AreInOrder (lock ∷ locks)
    → AreInOrder (without place locks)
    → AreInOrder (match_ordering o (lock ∷ locks) locks (lock ∷ without place locks))
unfolding IsStrictlySortedBy
without_by Less place lock locks h g = h
without_by Equal place lock locks h g = h.1
without_by Greater place lock locks h g = (all_without place locks _ h.0, g)

pub in_order-without : (place : Place) (locks : List Lock) → AreInOrder locks → AreInOrder (without place locks)
unfolding IsStrictlySortedBy
in_order-without place [] h = tt
in_order-without place (lock ∷ locks) h =
    without_by (place_cmp place (place_of lock)) place lock locks h (in_order-without place locks h.1)

pub in_order-nil : AreInOrder []
unfolding IsStrictlySortedBy
in_order-nil = tt

-- ---- at the index where a search ends

pub find_here : (place : Place) (locks : List Lock) (i : ℕ) (lock : Lock) → i < length locks
    → lock ≡ get_or locks i lock → IsAbove place (take i (map place_of locks))
    → ((d : Place) → place_cmp place (get_or (map place_of locks) i d) ≡ Equal) → find place locks ≡ Some lock
find_here place [] i lock l is above here = absurd (omega (arith, l))
find_here place (other ∷ locks) zero lock l is above here =
    ap (λ o. match_ordering o None (Some other) (find place locks)) (here place) ∙ ap Some (sym is)
find_here place (other ∷ locks) (suc i) lock l is above here =
    ap (λ o. match_ordering o None (Some other) (find place locks)) above.0
    ∙ find_here place locks i lock (omega arith) is above.1 here

pub find_none : (place : Place) (locks : List Lock) (i : ℕ) → i ≤ length locks
    → IsAbove place (take i (map place_of locks)) → IsBelowFirst place (drop i (map place_of locks))
    → find place locks ≡ None
find_none place [] i l above below = refl
find_none place (other ∷ locks) zero l above below =
    ap (λ o. match_ordering o None (Some other) (find place locks)) (below 0 place (omega arith) (omega arith))
find_none place (other ∷ locks) (suc i) l above below =
    ap (λ o. match_ordering o None (Some other) (find place locks)) above.0
    ∙ find_none place locks i (omega arith) above.1 below

pub put_here : (lock : Lock) (locks : List Lock) (i : ℕ) → i < length locks
    → IsAbove (place_of lock) (take i (map place_of locks))
    → ((d : Place) → place_cmp (place_of lock) (get_or (map place_of locks) i d) ≡ Equal)
    → put lock locks ≡ set locks i lock
put_here lock [] i l above here = absurd (omega (arith, l))
put_here lock (other ∷ locks) zero l above here =
    ap (λ o. match_ordering o (lock ∷ other ∷ locks) (lock ∷ locks) (other ∷ put lock locks)) (here (place_of lock))
put_here lock (other ∷ locks) (suc i) l above here =
    ap (λ o. match_ordering o (lock ∷ other ∷ locks) (lock ∷ locks) (other ∷ put lock locks)) above.0
    ∙ ap (λ xs. other ∷ xs) (put_here lock locks i (omega arith) above.1 here)

pub put_before : (lock : Lock) (locks : List Lock) (i : ℕ) → i ≤ length locks
    → IsAbove (place_of lock) (take i (map place_of locks))
    → IsBelowFirst (place_of lock) (drop i (map place_of locks)) → put lock locks ≡ insert locks i lock
put_before lock [] zero l above below = refl
put_before lock [] (suc i) l above below = absurd (omega (arith, l))
put_before lock (other ∷ locks) zero l above below =
    ap (λ o. match_ordering o (lock ∷ other ∷ locks) (lock ∷ locks) (other ∷ put lock locks))
    (below 0 (place_of lock) (omega arith) (omega arith))
put_before lock (other ∷ locks) (suc i) l above below =
    ap (λ o. match_ordering o (lock ∷ other ∷ locks) (lock ∷ locks) (other ∷ put lock locks)) above.0
    ∙ ap (λ xs. other ∷ xs) (put_before lock locks i (omega arith) above.1 below)

pub without_here : (place : Place) (locks : List Lock) (i : ℕ) → i < length locks
    → IsAbove place (take i (map place_of locks))
    → ((d : Place) → place_cmp place (get_or (map place_of locks) i d) ≡ Equal)
    → without place locks ≡ remove locks i
without_here place [] i l above here = absurd (omega (arith, l))
without_here place (lock ∷ locks) zero l above here =
    ap (λ o. match_ordering o (lock ∷ locks) locks (lock ∷ without place locks)) (here place)
without_here place (lock ∷ locks) (suc i) l above here =
    ap (λ o. match_ordering o (lock ∷ locks) locks (lock ∷ without place locks)) above.0
    ∙ ap (λ xs. lock ∷ xs) (without_here place locks i (omega arith) above.1 here)

pub without_none : (place : Place) (locks : List Lock) (i : ℕ) → i ≤ length locks
    → IsAbove place (take i (map place_of locks)) → IsBelowFirst place (drop i (map place_of locks))
    → without place locks ≡ locks
without_none place [] i l above below = refl
without_none place (lock ∷ locks) zero l above below =
    ap (λ o. match_ordering o (lock ∷ locks) locks (lock ∷ without place locks))
    (below 0 place (omega arith) (omega arith))
without_none place (lock ∷ locks) (suc i) l above below =
    ap (λ o. match_ordering o (lock ∷ locks) locks (lock ∷ without place locks)) above.0
    ∙ ap (λ xs. lock ∷ xs) (without_none place locks i (omega arith) above.1 below)

-- ---- the places of changed locks

pub map-insert : (locks : List Lock) (i : ℕ) (lock : Lock)
    → map place_of (insert locks i lock) ≡ insert (map place_of locks) i (place_of lock)
map-insert locks i lock =
    map-append place_of (take i locks) (lock ∷ drop i locks)
    ∙ (λ j. sym (take-map place_of i locks) j ++ place_of lock ∷ sym (drop-map place_of i locks) j)

pub map-remove : (locks : List Lock) (i : ℕ) → map place_of (remove locks i) ≡ remove (map place_of locks) i
map-remove locks i =
    map-append place_of (take i locks) (drop (suc i) locks)
    ∙ (λ j. sym (take-map place_of i locks) j ++ sym (drop-map place_of (suc i) locks) j)
