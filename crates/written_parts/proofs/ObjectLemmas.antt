-- Objects whose members have fixed names: what a rule accepts of them, which names they have, and how deep they nest.
use Rattle.std.proofs.Common.{◌≡◌, ◌≤◌, ℕ, suc, max, chars, nat_lt, bytes_eq, Bool, true, false, ◌&&◌, not}
use Rattle.std.proofs.Common.{List, [], ◌∷◌, Option, Some, None, is_some, Ordering, Less, Equal, Greater, refl}
use Rattle.std.proofs.Common.{ap, ◌∙◌}
use Rattle.std.proofs.Common.{if◌then◌else◌, arith, ap₂}
use Rattle.std.specs.List.{list_all}
use Rattle.std.specs.Ordering.{match_ordering}
use Rattle.arm_value.specs.Json.{Json, object, Pairs, no_pairs, pair, Member, pairs, keys}
use Rattle.arm_value.specs.Json.{put, key_cmp, nesting, pairs_nesting, members_nesting}
use Rattle.arm_value.specs.Look.{is_same_folded, first_by, or_else}
use Rattle.arm_value.proofs.TreeLemmas.{put_nests}
use Rattle.foundation.proofs.AsciiWords.{word}
use Rattle.foundation.proofs.TruthValues.{both, of_not}
use Rattle.template_members.specs.Objects.{Single, Rule, members_fault, object_fault}
use Rattle.template_meaning.specs.Values.{inside}
use Rattle.template_values.specs.Order.{missing, decided}
use Rattle.template_written.specs.Slots.{Slot, put_slot, put_slots, an_object, NestsWithin, SlotsNest}
use Rattle.template_written.proofs.SlotLemmas.{first_put_other, none_same, are_apart, names, slot_at, look_slot}
use Rattle.written_parts.proofs.FaultLemmas.{Holds, always, holding, Accepts, Differ, Apart, faulty_nothing}
use Rattle.written_parts.proofs.FaultLemmas.{has_inside, turned_folded}

-- ---- members that are put

accepts_by : (rule : Rule) (k : List ℕ) (j : Json) (m : Member) (ms : List Member) (o : Ordering) → rule k j ≡ None
    → Accepts rule (pairs (m ∷ ms)) → Accepts rule (pairs (put k j ms))
    → Accepts rule (pairs (match_ordering o ((k, j) ∷ m ∷ ms) ((k, j) ∷ ms) (m ∷ put k j ms)))
accepts_by rule k j m ms Less e a h = (e, a)
accepts_by rule k j m ms Equal e a h = (e, a.1)
accepts_by rule k j m ms Greater e a h = (a.0, h)

pub accepts_put : (rule : Rule) (k : List ℕ) (j : Json) (ms : List Member) → rule k j ≡ None → Accepts rule (pairs ms)
    → Accepts rule (pairs (put k j ms))
accepts_put rule k j [] e a = (e, tt)
accepts_put rule k j (m ∷ ms) e a = accepts_by rule k j m ms (key_cmp k m.0) e a (accepts_put rule k j ms e a.1)

differ_by : (single : Single) (n k : List ℕ) (j : Json) (m : Member) (ms : List Member) (o : Ordering)
    → (single k ≡ true → is_same_folded k n ≡ false) → Differ single n (keys (m ∷ ms))
    → Differ single n (keys (put k j ms))
    → Differ single n (keys (match_ordering o ((k, j) ∷ m ∷ ms) ((k, j) ∷ ms) (m ∷ put k j ms)))
differ_by single n k j m ms Less e d h = (e, d)
differ_by single n k j m ms Equal e d h = (e, d.1)
differ_by single n k j m ms Greater e d h = (d.0, h)

differ_put : (single : Single) (n k : List ℕ) (j : Json) (ms : List Member)
    → (single k ≡ true → is_same_folded k n ≡ false) → Differ single n (keys ms) → Differ single n (keys (put k j ms))
differ_put single n k j [] e d = (e, tt)
differ_put single n k j (m ∷ ms) e d =
    differ_by single n k j m ms (key_cmp k m.0) e d (differ_put single n k j ms e d.1)

not_first : (p : List ℕ → Bool) (m : Member) (ms : List Member) → first_by p (pairs (m ∷ ms)) ≡ None
    → (p m.0 ≡ false) × (first_by p (pairs ms) ≡ None)
not_first p m ms e = by_test (p m.0) e
  where
    by_test : (b : Bool) → (if b then Some m.1 else first_by p (pairs ms)) ≡ None
        → (b ≡ false) × (first_by p (pairs ms) ≡ None)
    by_test true g = cc
    by_test false g = (refl, g)

-- a name that no member has differs from all
differ_none : (single : Single) (k : List ℕ) (ms : List Member) → first_by (is_same_folded k) (pairs ms) ≡ None
    → Differ single k (keys ms)
differ_none single k [] e = tt
differ_none single k (m ∷ ms) e =
    let p = not_first (is_same_folded k) m ms e in
    (λ s. turned_folded m.0 k ∙ p.0, differ_none single k ms p.1)

apart_by : (single : Single) (k : List ℕ) (j : Json) (m : Member) (ms : List Member) (o : Ordering)
    → is_same_folded k m.0 ≡ false → first_by (is_same_folded k) (pairs ms) ≡ None → Apart single (keys (m ∷ ms))
    → Apart single (keys (put k j ms))
    → Apart single (keys (match_ordering o ((k, j) ∷ m ∷ ms) ((k, j) ∷ ms) (m ∷ put k j ms)))
apart_by single k j m ms Less f n a h =
    ((λ s. turned_folded m.0 k ∙ f, differ_none single k ms n), a)
apart_by single k j m ms Equal f n a h = (differ_none single k ms n, a.1)
apart_by single k j m ms Greater f n a h = (differ_put single m.0 k j ms (λ s. f) a.0, h)

pub apart_put : (single : Single) (k : List ℕ) (j : Json) (ms : List Member)
    → first_by (is_same_folded k) (pairs ms) ≡ None → Apart single (keys ms) → Apart single (keys (put k j ms))
apart_put single k j [] n a = (tt, tt)
apart_put single k j (m ∷ ms) n a =
    let p = not_first (is_same_folded k) m ms n in
    apart_by single k j m ms (key_cmp k m.0) p.0 p.1 a (apart_put single k j ms p.1 a.1)

-- ---- slots

-- the rule accepts what is in each slot
abbrev pub SlotsPass : Rule → List Slot → Type 0
SlotsPass rule [] = Unit {0}
SlotsPass rule (s ∷ ss) = Holds (λ j. rule s.0 j ≡ None) s.1 × SlotsPass rule ss

-- no member has the name
abbrev pub NoneHas : List ℕ → List Member → Type 0
NoneHas name ms = first_by (is_same_folded (chars name)) (pairs ms) ≡ None

-- no member has the name of a slot that has a value
abbrev pub FreeOf : List Slot → List Member → Type 0
FreeOf [] ms = Unit {0}
FreeOf (s ∷ ss) ms = Holds (λ j. NoneHas s.0 ms) s.1 × FreeOf ss ms

abbrev AreWords : List (List ℕ) → Type 0
AreWords [] = Unit {0}
AreWords (n ∷ ns) = (list_all (λ b. nat_lt b 128) n ≡ true) × AreWords ns

words_apart : (ns : List (List ℕ)) → are_apart ns ≡ true → AreWords ns
words_apart [] e = tt
words_apart (n ∷ ns) e =
    let there = both (list_all (λ b. nat_lt b 128) n) (none_same n ns && are_apart ns) e in
    (there.0, words_apart ns (both (none_same n ns) (are_apart ns) there.1).1)

accepts_slot : (rule : Rule) (k : List ℕ) (o : Option Json) (ms : List Member)
    → list_all (λ b. nat_lt b 128) k ≡ true → Holds (λ j. rule k j ≡ None) o → Accepts rule (pairs ms)
    → Accepts rule (pairs (put_slot k o ms))
unfolding put_slot
accepts_slot rule k None ms w h a = a
accepts_slot rule k (Some j) ms w h a = accepts_put rule (chars k) j ms (ap (λ n. rule n j) (word k w) ∙ h) a

accepts_words : (rule : Rule) (ss : List Slot) (ms : List Member) → AreWords (names ss) → SlotsPass rule ss
    → Accepts rule (pairs ms) → Accepts rule (pairs (put_slots ss ms))
accepts_words rule [] ms w h a = a
accepts_words rule (s ∷ ss) ms w h a =
    accepts_words rule ss (put_slot s.0 s.1 ms) w.1 h.1 (accepts_slot rule s.0 s.1 ms w.0 h.0 a)

pub accepts_slots : (rule : Rule) (ss : List Slot) (ms : List Member) → are_apart (names ss) ≡ true
    → SlotsPass rule ss → Accepts rule (pairs ms) → Accepts rule (pairs (put_slots ss ms))
accepts_slots rule ss ms e h a = accepts_words rule ss ms (words_apart (names ss) e) h a

slot_other : (p : List ℕ → Bool) (k : List ℕ) (o : Option Json) (ms : List Member) → p (chars k) ≡ false
    → first_by p (pairs ms) ≡ None → first_by p (pairs (put_slot k o ms)) ≡ None
unfolding put_slot
slot_other p k None ms f n = n
slot_other p k (Some j) ms f n = first_put_other p (chars k) j ms f ∙ n

-- members without the names of the slots have none of them with a slot of another name
free_slot : (k : List ℕ) (o : Option Json) (ss : List Slot) (ms : List Member)
    → list_all (λ b. nat_lt b 128) k ≡ true → AreWords (names ss) → none_same k (names ss) ≡ true → FreeOf ss ms
    → FreeOf ss (put_slot k o ms)
free_slot k o [] ms w ws e f = tt
free_slot k o (s ∷ ss) ms w ws e f =
    let here = both (not (is_same_folded k s.0)) (none_same k (names ss)) e in
    let other : is_same_folded (chars s.0) (chars k) ≡ false =
    ap₂ is_same_folded (word s.0 ws.0) (word k w) ∙ turned_folded s.0 k ∙ of_not (is_same_folded k s.0) here.0 in (
      holding (λ j. NoneHas s.0 ms) (λ j. NoneHas s.0 (put_slot k o ms))
          (λ j n. slot_other (is_same_folded (chars s.0)) k o ms other n) s.1 f.0,
      free_slot k o ss ms w ws.1 here.1 f.1,
    )

apart_slot : (single : Single) (k : List ℕ) (o : Option Json) (ms : List Member)
    → Holds (λ j. NoneHas k ms) o → Apart single (keys ms) → Apart single (keys (put_slot k o ms))
unfolding put_slot
apart_slot single k None ms n a = a
apart_slot single k (Some j) ms n a = apart_put single (chars k) j ms n a

pub apart_slots : (single : Single) (ss : List Slot) (ms : List Member) → are_apart (names ss) ≡ true → FreeOf ss ms
    → Apart single (keys ms) → Apart single (keys (put_slots ss ms))
apart_slots single [] ms e f a = a
apart_slots single (s ∷ ss) ms e f a =
    let there = both (list_all (λ b. nat_lt b 128) s.0) (none_same s.0 (names ss) && are_apart (names ss)) e in
    let rest = both (none_same s.0 (names ss)) (are_apart (names ss)) there.1 in
    apart_slots single ss (put_slot s.0 s.1 ms) rest.1
    (free_slot s.0 s.1 ss ms there.0 (words_apart (names ss) rest.1) rest.0 f.1)
    (apart_slot single s.0 s.1 ms f.0 a)

-- each of these names is that of a slot that has a value
abbrev pub AreIn : List (List ℕ) → List Slot → List Member → Type 0
AreIn [] ss ms = Unit {0}
AreIn (n ∷ ns) ss ms =
    ((list_all (λ b. nat_lt b 128) n ≡ true) × NoneHas n ms × (is_some (slot_at n ss) ≡ true)) × AreIn ns ss ms

pub slots_there : (required : List (List ℕ)) (ss : List Slot) (ms : List Member) → are_apart (names ss) ≡ true
    → AreIn required ss ms → missing required (pairs (put_slots ss ms)) ≡ None
slots_there [] ss ms e h = refl
slots_there (n ∷ ns) ss ms e h =
    let ps = pairs (put_slots ss ms) in
    ap (λ b. if b then missing ns ps else Some n)
    (has_inside n h.0.0 ps ∙ ap (λ (o : Option Json). is_some o) (look_slot n ss ms h.0.0 e h.0.1) ∙ h.0.2)
    ∙ slots_there ns ss ms e h.1

pub members_pass : (required : List (List ℕ)) (single : Single) (rule : Rule) (ss : List Slot) (ms : List Member)
    → are_apart (names ss) ≡ true → FreeOf ss ms → AreIn required ss ms → SlotsPass rule ss
    → Accepts rule (pairs ms) → Apart single (keys ms)
    → members_fault required single rule (pairs (put_slots ss ms)) ≡ None
members_pass required single rule ss ms e f r h a d =
    ap₂ decided (slots_there required ss ms e r)
    (faulty_nothing single rule (pairs (put_slots ss ms)) (accepts_slots rule ss ms e h a)
    (apart_slots single ss ms e f d))

pub free_nothing : (ss : List Slot) → FreeOf ss []
free_nothing [] = tt
free_nothing (s ∷ ss) = (always (λ j. NoneHas s.0 []) (λ j. refl) s.1, free_nothing ss)

-- an object of slots that the rule accepts is not refused
pub object_passes : (required : List (List ℕ)) (single : Single) (rule : Rule) (ss : List Slot)
    → are_apart (names ss) ≡ true → AreIn required ss [] → SlotsPass rule ss
    → object_fault required single rule (an_object ss) ≡ None
object_passes required single rule ss e r h =
    members_pass required single rule ss [] e (free_nothing ss) r h tt tt

-- ---- nesting

slot_within : (n : ℕ) (k : List ℕ) (o : Option Json) (ms : List Member) → NestsWithin n o → members_nesting ms ≤ n
    → members_nesting (put_slot k o ms) ≤ n
unfolding put_slot
slot_within n k None ms h w = w
slot_within n k (Some j) ms h w = put_nests n (chars k) j ms h w

pub slots_within : (n : ℕ) (ss : List Slot) (ms : List Member) → SlotsNest n ss → members_nesting ms ≤ n
    → members_nesting (put_slots ss ms) ≤ n
slots_within n [] ms h w = w
slots_within n (s ∷ ss) ms h w = slots_within n ss (put_slot s.0 s.1 ms) h.1 (slot_within n s.0 s.1 ms h.0 w)

-- an object of slots nests one deeper than they do at most
pub object_within : (n : ℕ) (ss : List Slot) → SlotsNest n ss → nesting (an_object ss) ≤ suc n
object_within n ss h = omega (arith, slots_within n ss [] h (omega arith))

first_within : (p : List ℕ → Bool) (ms : Pairs) → NestsWithin (pairs_nesting ms) (first_by p ms)
first_within p no_pairs = tt
first_within p (pair k j ms) = by_test (p k) (first_by p ms) (first_within p ms)
  where
    by_test : (b : Bool) (o : Option Json) → NestsWithin (pairs_nesting ms) o
        → NestsWithin (max (nesting j) (pairs_nesting ms)) (if b then Some j else o)
    by_test true o h = omega arith
    by_test false None h = tt
    by_test false (Some i) h = omega (arith, h)

either_within : (n : ℕ) (a b : Option Json) → NestsWithin n a → NestsWithin n b → NestsWithin n (or_else a b)
either_within n None b h g = g
either_within n (Some j) b h g = h

-- what is found in an object nests less deep
pub inside_within : (name : List ℕ) (ms : Pairs) → NestsWithin (pairs_nesting ms) (inside name (Some (object ms)))
inside_within name ms =
    either_within (pairs_nesting ms) (first_by (bytes_eq (chars name)) ms)
    (first_by (is_same_folded (chars name)) ms) (first_within (bytes_eq (chars name)) ms)
    (first_within (is_same_folded (chars name)) ms)
