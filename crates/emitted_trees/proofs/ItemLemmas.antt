-- Objects that are read member by member: the order of members of different names does not matter.
use Rattle.std.proofs.Common.{◌≡◌, ◌≢◌, ℕ, List, [], ◌∷◌, ◌++◌, Option, Some, None, Bool, true, false}
use Rattle.std.proofs.Common.{Ordering, Less, Equal, Greater, refl, sym, ap, ◌∙◌, map}
use Rattle.std.specs.Prelude.{◌||◌}
use Rattle.std.specs.Ordering.{match_ordering}
use Rattle.std.specs.List.{AllByRecursion}
use Rattle.arm_value.specs.Json.{Json, Member, keys, key_cmp, put, put_each}
use Rattle.arm_value.proofs.SetLemmas.{equal_keys}
use Rattle.bicep_emission.specs.Alike.{Seen, after}
use Rattle.emitted_trees.proofs.PutLemmas.{puts_commute}

-- a member that is read, or nothing
pub data Item : Type 0 where
  nothing : Item
  named : List ℕ → Seen Json → Item

-- whether a marked cell is read for any of them
abbrev pub marked : List Item → Bool
marked [] = false
marked (nothing ∷ is) = marked is
marked (named k s ∷ is) = marked is || s.1

-- goes on with a member that is put among others
abbrev pub put_seen : List ℕ → Seen Json → List Member → (List Member → Seen (List Member)) → Bool
    → Seen (List Member)
put_seen k (Some j, b) base f m = after b (f (put k j base))
put_seen k (None, b) base f m = (None, m || b)

-- the members with these put among them, where each has a value, and all are read
abbrev pub onto : List Member → List Item → Seen (List Member)
onto base [] = (Some base, false)
onto base (nothing ∷ is) = onto base is
onto base (named k s ∷ is) = put_seen k s base (λ ms. onto ms is) (marked is)

-- the same members, whatever they are put among
abbrev pub Same : List Item → List Item → Type 0
Same xs ys = (base : List Member) → onto base xs ≡ onto base ys

abbrev pub Apart : Item → Item → Type 0
Apart nothing i = Unit {0}
Apart (named k s) nothing = Unit {0}
Apart (named k s) (named l t) = k ≢ l

abbrev pub AllApart : Item → List Item → Type 0
AllApart i [] = Unit {0}
AllApart i (j ∷ js) = Apart i j × AllApart i js

abbrev with_marks : Option (List Member) → Bool → Seen (List Member)
with_marks o b = (o, b)

or_swap : (a b c : Bool) → ((a || b) || c) ≡ ((a || c) || b)
or_swap true b c = refl
or_swap false true true = refl
or_swap false true false = refl
or_swap false false true = refl
or_swap false false false = refl

after_swap : (b c : Bool) (s : Seen (List Member)) → after b (after c s) ≡ after c (after b s)
after_swap b c (o, m) = ap (with_marks o) (or_swap m c b)

marks_by : (k : List ℕ) (s : Seen Json) (base : List Member) (is : List Item)
    → ((ms : List Member) → (onto ms is).1 ≡ marked is)
    → (put_seen k s base (λ ms. onto ms is) (marked is)).1 ≡ (marked is || s.1)
marks_by k (Some j, b) base is h = ap (λ m. m || b) (h (put k j base))
marks_by k (None, b) base is h = refl

marks_are : (is : List Item) (base : List Member) → (onto base is).1 ≡ marked is
marks_are [] base = refl
marks_are (nothing ∷ is) base = marks_are is base
marks_are (named k s ∷ is) base = marks_by k s base is (marks_are is)

same_marks : (xs ys : List Item) → Same xs ys → marked xs ≡ marked ys
same_marks xs ys h = sym (marks_are xs []) ∙ ap (λ s. s.1) (h []) ∙ marks_are ys []

front_by : (k : List ℕ) (s : Seen Json) (base : List Member) (xs ys : List Item) → Same xs ys
    → put_seen k s base (λ ms. onto ms xs) (marked xs) ≡ put_seen k s base (λ ms. onto ms ys) (marked ys)
front_by k (Some j, b) base xs ys h = ap (after b) (h (put k j base))
front_by k (None, b) base xs ys h = ap (λ m. with_marks None (m || b)) (same_marks xs ys h)

-- one more in front
pub same_front : (i : Item) (xs ys : List Item) → Same xs ys → Same (i ∷ xs) (i ∷ ys)
same_front nothing xs ys h base = h base
same_front (named k s) xs ys h base = front_by k s base xs ys h

pub same_after : (bs xs ys : List Item) → Same xs ys → Same (bs ++ xs) (bs ++ ys)
same_after [] xs ys h = h
same_after (a ∷ bs) xs ys h = same_front a (bs ++ xs) (bs ++ ys) (same_after bs xs ys h)

swap_named : (k l : List ℕ) (s t : Seen Json) (xs : List Item) → k ≢ l
    → Same (named k s ∷ named l t ∷ xs) (named l t ∷ named k s ∷ xs)
swap_named k l (Some i, b) (Some j, c) xs h base =
    after_swap b c (onto (put l j (put k i base)) xs)
    ∙ ap (λ ms. after c (after b (onto ms xs))) (puts_commute k l i j base h)
swap_named k l (Some i, b) (None, c) xs h base = ap (with_marks None) (or_swap (marked xs) c b)
swap_named k l (None, b) (Some j, c) xs h base = ap (with_marks None) (or_swap (marked xs) c b)
swap_named k l (None, b) (None, c) xs h base = ap (with_marks None) (or_swap (marked xs) c b)

pub same_swapped : (i j : Item) (xs : List Item) → Apart i j → Same (i ∷ j ∷ xs) (j ∷ i ∷ xs)
same_swapped nothing nothing xs h base = refl
same_swapped nothing (named l t) xs h base = refl
same_swapped (named k s) nothing xs h base = refl
same_swapped (named k s) (named l t) xs h base = swap_named k l s t xs h base

-- one that is read before others of other names
pub same_moved : (i : Item) (bs xs : List Item) → AllApart i bs → Same (i ∷ bs ++ xs) (bs ++ i ∷ xs)
same_moved i [] xs h base = refl
same_moved i (a ∷ bs) xs h base =
    same_swapped i a (bs ++ xs) h.0 base ∙ same_front a (i ∷ bs ++ xs) (bs ++ i ∷ xs) (same_moved i bs xs h.1) base

-- ---- in the order of names

-- members of different names
abbrev pub AreNamed : (Member → Item) → Type 0
AreNamed f = (m n : Member) → m.0 ≢ n.0 → Apart (f m) (f n)

abbrev pub Absent : List ℕ → List Member → Type 0
Absent k ms = AllByRecursion (λ other. k ≢ other) (keys ms)

-- each name differs from those after it
abbrev pub Distinct : List Member → Type 0
Distinct [] = Unit {0}
Distinct (m ∷ ms) = Absent m.0 ms × Distinct ms

absent_by : (o : Ordering) (l k : List ℕ) (j : Json) (m : Member) (ms : List Member) → l ≢ k → l ≢ m.0
    → Absent l ms → Absent l (put k j ms)
    → Absent l (match_ordering o ((k, j) ∷ m ∷ ms) ((k, j) ∷ ms) (m ∷ put k j ms))
absent_by Less l k j m ms h g a r = (h, (g, a))
absent_by Equal l k j m ms h g a r = (h, a)
absent_by Greater l k j m ms h g a r = (g, r)

pub absent_put : (l k : List ℕ) (j : Json) (ms : List Member) → l ≢ k → Absent l ms → Absent l (put k j ms)
absent_put l k j [] h a = (h, tt)
absent_put l k j (m ∷ ms) h a =
    absent_by (key_cmp k m.0) l k j m ms h a.0 a.1 (absent_put l k j ms h a.1)

module _ (f : Member → Item) (is : AreNamed f) where
  apart_from : (m : Member) (ms : List Member) → Absent m.0 ms → AllApart (f m) (map f ms)
  apart_from m [] h = tt
  apart_from m (n ∷ ns) h = (is m n h.0, apart_from m ns h.1)

  put_by : (o : Ordering) (k : List ℕ) (j : Json) (m : Member) (ms : List Member) (xs : List Item)
      → key_cmp k m.0 ≡ o → k ≢ m.0
      → Same (map f (put k j ms) ++ xs) (f (k, j) ∷ map f ms ++ xs)
      → Same (map f (match_ordering o ((k, j) ∷ m ∷ ms) ((k, j) ∷ ms) (m ∷ put k j ms)) ++ xs)
      (f (k, j) ∷ f m ∷ map f ms ++ xs)
  put_by Less k j m ms xs e h g base = refl
  put_by Equal k j m ms xs e h g base = absurd (h (equal_keys k m.0 e))
  put_by Greater k j m ms xs e h g base =
      same_front (f m) (map f (put k j ms) ++ xs) (f (k, j) ∷ map f ms ++ xs) g base
      ∙ sym (same_swapped (f (k, j)) (f m) (map f ms ++ xs) (is (k, j) m h) base)

  same_put : (k : List ℕ) (j : Json) (ms : List Member) (xs : List Item) → Absent k ms
      → Same (map f (put k j ms) ++ xs) (f (k, j) ∷ map f ms ++ xs)
  same_put k j [] xs h base = refl
  same_put k j (m ∷ ms) xs h base = put_by (key_cmp k m.0) k j m ms xs refl h.0 (same_put k j ms xs h.1) base

  abbrev AllAbsent : List Member → List Member → Type 0
  AllAbsent [] ms = Unit {0}
  AllAbsent (n ∷ ns) ms = Absent n.0 ms × AllAbsent ns ms

  all_absent_put : (n : Member) (ns ms : List Member) → Absent n.0 ns → AllAbsent ns ms
      → AllAbsent ns (put n.0 n.1 ms)
  all_absent_put n [] ms h a = tt
  all_absent_put n (p ∷ ps) ms h a =
      (absent_put p.0 n.0 n.1 ms (λ e. h.0 (sym e)) a.0, all_absent_put n ps ms h.1 a.1)

  same_sorted : (ns ms : List Member) (xs : List Item) → Distinct ns → AllAbsent ns ms
      → Same (map f (put_each ms ns) ++ xs) (map f ns ++ (map f ms ++ xs))
  same_sorted [] ms xs d a base = refl
  same_sorted (n ∷ ns) ms xs d a base =
      same_sorted ns (put n.0 n.1 ms) xs d.1 (all_absent_put n ns ms d.0 a.1) base
      ∙ same_after (map f ns) (map f (put n.0 n.1 ms) ++ xs) (f n ∷ map f ms ++ xs)
      (same_put n.0 n.1 ms xs a.0) base
      ∙ sym (same_moved (f n) (map f ns) (map f ms ++ xs) (apart_from n ns d.0) base)

  none_absent : (ns : List Member) → AllAbsent ns []
  none_absent [] = tt
  none_absent (n ∷ ns) = (tt, none_absent ns)

  -- the members in the order of their names
  pub same_in_order : (ns : List Member) (xs : List Item) → Distinct ns
      → Same (map f (put_each [] ns) ++ xs) (map f ns ++ xs)
  same_in_order ns xs d = same_sorted ns [] xs d (none_absent ns)
