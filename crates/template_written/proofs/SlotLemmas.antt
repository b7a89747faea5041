-- What is found in objects whose members have fixed names, and how deep their members nest.
use Rattle.std.proofs.Common.{◌≡◌, ◌≤◌, ℕ, nat_lt, chars, bytes_eq, encode_utf8_all, Bool, true, false, ◌&&◌, not}
use Rattle.std.proofs.Common.{List, []}
use Rattle.std.proofs.Common.{◌∷◌, Option, Some, None, Ordering, Less, Equal, Greater, refl, sym, ap, ap₂, ◌∙◌}
use Rattle.std.proofs.Common.{arith, if◌then◌else◌}
use Rattle.std.specs.List.{list_all}
use Rattle.std.specs.Ordering.{match_ordering}
use Rattle.std.specs.Ordering.{ordering_reverse}
use Rattle.std.proofs.lemmas.Cmp.{nat_list_cmp_total}
use Rattle.std.proofs.lemmas.Slice.Eq.{bytes_eq-Decides}
use Rattle.foundation.proofs.Words.{itself}
use Rattle.arm_value.specs.Json.{Json, object, Member, pairs, put, key_cmp}
use Rattle.arm_value.specs.Json.{members_nesting}
use Rattle.arm_value.specs.Look.{fold, is_same_folded, first_by, or_else}
use Rattle.arm_value.proofs.SetLemmas.{equal_keys}
use Rattle.foundation.proofs.AsciiWords.{word}
use Rattle.foundation.proofs.TruthValues.{both, of_not}
use Rattle.template_meaning.specs.Values.{inside}
use Rattle.template_written.specs.Slots.{Slot, put_slot, put_slots, NestsWithin, SlotsNest}
use Rattle.arm_value.proofs.JsonLemmas.{first_by_nests}

-- ---- one member

other_by : (p : List ℕ → Bool) (k : List ℕ) (j : Json) (m : Member) (ms : List Member) (o : Ordering)
    → key_cmp k m.0 ≡ o → p k ≡ false
    → first_by p (pairs (put k j ms)) ≡ first_by p (pairs ms)
    → first_by p (pairs (match_ordering o ((k, j) ∷ m ∷ ms) ((k, j) ∷ ms) (m ∷ put k j ms)))
    ≡ first_by p (pairs (m ∷ ms))
other_by p k j m ms Less e f h = ap (λ b. if b then Some j else first_by p (pairs (m ∷ ms))) f
other_by p k j m ms Equal e f h =
    ap (λ b. if b then Some j else first_by p (pairs ms)) f
    ∙ sym (ap (λ b. if b then Some m.1 else first_by p (pairs ms)) (sym (ap p (equal_keys k m.0 e)) ∙ f))
other_by p k j m ms Greater e f h = ap (λ r. if p m.0 then Some m.1 else r) h

-- a member that fails the test changes nothing of what is found
pub first_put_other : (p : List ℕ → Bool) (k : List ℕ) (j : Json) (ms : List Member) → p k ≡ false
    → first_by p (pairs (put k j ms)) ≡ first_by p (pairs ms)
first_put_other p k j [] f = ap (λ b. if b then Some j else None) f
first_put_other p k j (m ∷ ms) f =
    other_by p k j m ms (key_cmp k m.0) refl f (first_put_other p k j ms f)

passed_by : (p : List ℕ → Bool) (m : Member) (ms : List Member) (b : Bool) → p m.0 ≡ b
    → (if b then Some m.1 else first_by p (pairs ms)) ≡ None → (b ≡ false) × (first_by p (pairs ms) ≡ None)
passed_by p m ms true e h = cc
passed_by p m ms false e h = (refl, h)

here_by : (p : List ℕ → Bool) (k : List ℕ) (j : Json) (m : Member) (ms : List Member) (o : Ordering) → p k ≡ true
    → p m.0 ≡ false → first_by p (pairs (put k j ms)) ≡ Some j
    → first_by p (pairs (match_ordering o ((k, j) ∷ m ∷ ms) ((k, j) ∷ ms) (m ∷ put k j ms))) ≡ Some j
here_by p k j m ms Less t f h = ap (λ b. if b then Some j else first_by p (pairs (m ∷ ms))) t
here_by p k j m ms Equal t f h = ap (λ b. if b then Some j else first_by p (pairs ms)) t
here_by p k j m ms Greater t f h =
    ap (λ b. if b then Some m.1 else first_by p (pairs (put k j ms))) f ∙ h

-- a member that passes the test is found where no other does
pub first_put_here : (p : List ℕ → Bool) (k : List ℕ) (j : Json) (ms : List Member) → p k ≡ true
    → first_by p (pairs ms) ≡ None → first_by p (pairs (put k j ms)) ≡ Some j
first_put_here p k j [] t n = ap (λ b. if b then Some j else None) t
first_put_here p k j (m ∷ ms) t n =
    let parts = passed_by p m ms (p m.0) refl n in
    here_by p k j m ms (key_cmp k m.0) t parts.0 (first_put_here p k j ms t parts.1)

-- ---- the member of exactly one name

-- no key comes after itself
not_after : (k l : List ℕ) → key_cmp k l ≡ Greater → k ≡ l → ⊥
not_after k l e same =
    let self : key_cmp k k ≡ Greater = ap (key_cmp k) same ∙ e in
    let less : key_cmp k k ≡ Less =
    nat_list_cmp_total.antisymm (encode_utf8_all k) (encode_utf8_all k) ∙ ap ordering_reverse self in
    let d : Greater ≡ Less = sym self ∙ less in cc

after_by : (k : List ℕ) (j : Json) (m : Member) (ms : List Member) (b : Bool) → bytes_eq k m.0 ≡ b
    → key_cmp k m.0 ≡ Greater → first_by (bytes_eq k) (pairs (put k j ms)) ≡ Some j
    → (if b then Some m.1 else first_by (bytes_eq k) (pairs (put k j ms))) ≡ Some j
after_by k j m ms true d e h = absurd (not_after k m.0 e ((bytes_eq-Decides k m.0).0 d))
after_by k j m ms false d e h = h

exact_by : (k : List ℕ) (j : Json) (m : Member) (ms : List Member) (o : Ordering) → key_cmp k m.0 ≡ o
    → first_by (bytes_eq k) (pairs (put k j ms)) ≡ Some j
    → first_by (bytes_eq k) (pairs (match_ordering o ((k, j) ∷ m ∷ ms) ((k, j) ∷ ms) (m ∷ put k j ms))) ≡ Some j
exact_by k j m ms Less e h = ap (λ b. if b then Some j else first_by (bytes_eq k) (pairs (m ∷ ms))) (itself k)
exact_by k j m ms Equal e h = ap (λ b. if b then Some j else first_by (bytes_eq k) (pairs ms)) (itself k)
exact_by k j m ms Greater e h = after_by k j m ms (bytes_eq k m.0) refl e h

-- the value that was put at a key is found at it
pub first_put_exact : (k : List ℕ) (j : Json) (ms : List Member) → first_by (bytes_eq k) (pairs (put k j ms)) ≡ Some j
first_put_exact k j [] = ap (λ b. if b then Some j else None) (itself k)
first_put_exact k j (m ∷ ms) = exact_by k j m ms (key_cmp k m.0) refl (first_put_exact k j ms)

-- ---- what is found in an object of slots

-- no slot passes the test
abbrev pub NonePass : (List ℕ → Bool) → List Slot → Type 0
NonePass p [] = Unit {0}
NonePass p (s ∷ ss) = (p (chars s.0) ≡ false) × NonePass p ss

-- at most one slot passes the test
abbrev pub OncePasses : (List ℕ → Bool) → List Slot → Type 0
OncePasses p [] = Unit {0}
OncePasses p (s ∷ ss) = (p (chars s.0) ≡ true → NonePass p ss) × OncePasses p ss

-- the value of the first slot that passes the test
abbrev pub found : (List ℕ → Bool) → List Slot → Option Json
found p [] = None
found p (s ∷ ss) = if p (chars s.0) then s.1 else found p ss

put_other : (p : List ℕ → Bool) (k : List ℕ) (o : Option Json) (ms : List Member) → p (chars k) ≡ false
    → first_by p (pairs (put_slot k o ms)) ≡ first_by p (pairs ms)
unfolding put_slot
put_other p k None ms f = refl
put_other p k (Some j) ms f = first_put_other p (chars k) j ms f

pub unaffected : (p : List ℕ → Bool) (ss : List Slot) (ms : List Member) → NonePass p ss
    → first_by p (pairs (put_slots ss ms)) ≡ first_by p (pairs ms)
unaffected p [] ms h = refl
unaffected p (s ∷ ss) ms h = unaffected p ss (put_slot s.0 s.1 ms) h.1 ∙ put_other p s.0 s.1 ms h.0

put_here : (p : List ℕ → Bool) (k : List ℕ) (o : Option Json) (ms : List Member) → p (chars k) ≡ true
    → first_by p (pairs ms) ≡ None → first_by p (pairs (put_slot k o ms)) ≡ o
unfolding put_slot
put_here p k None ms t n = n
put_here p k (Some j) ms t n = first_put_here p (chars k) j ms t n

found_by : (p : List ℕ → Bool) (s : Slot) (ss : List Slot) (ms : List Member) (b : Bool) → p (chars s.0) ≡ b
    → (p (chars s.0) ≡ true → NonePass p ss)
    → ((ns : List Member) → first_by p (pairs ns) ≡ None → first_by p (pairs (put_slots ss ns)) ≡ found p ss)
    → first_by p (pairs ms) ≡ None
    → first_by p (pairs (put_slots ss (put_slot s.0 s.1 ms))) ≡ (if b then s.1 else found p ss)
found_by p s ss ms true e once rest n =
    unaffected p ss (put_slot s.0 s.1 ms) (once e) ∙ put_here p s.0 s.1 ms e n
found_by p s ss ms false e once rest n = rest (put_slot s.0 s.1 ms) (put_other p s.0 s.1 ms e ∙ n)

pub found_in : (p : List ℕ → Bool) (ss : List Slot) → OncePasses p ss → (ms : List Member)
    → first_by p (pairs ms) ≡ None → first_by p (pairs (put_slots ss ms)) ≡ found p ss
found_in p [] once ms n = n
found_in p (s ∷ ss) once ms n =
    found_by p s ss ms (p (chars s.0)) refl once.0 (λ ns e. found_in p ss once.1 ns e) n

-- ---- tests of which one passes less

exact_folds : (a b : List ℕ) → bytes_eq a b ≡ true → is_same_folded a b ≡ true
exact_folds a b e = (bytes_eq-Decides (fold a) (fold b)).1 (ap fold ((bytes_eq-Decides a b).0 e))

-- a test that passes where another does
abbrev Implies : (List ℕ → Bool) → (List ℕ → Bool) → Type 0
Implies p q = (k : List ℕ) → p k ≡ true → q k ≡ true

false_by : (p q : List ℕ → Bool) (k : List ℕ) (b : Bool) → Implies p q → q k ≡ false → p k ≡ b → b ≡ false
false_by p q k true h f e = let d : true ≡ false = sym (h k e) ∙ f in cc
false_by p q k false h f e = refl

false_too : (p q : List ℕ → Bool) (k : List ℕ) → Implies p q → q k ≡ false → p k ≡ false
false_too p q k h f = false_by p q k (p k) h f refl

none_pass_too : (p q : List ℕ → Bool) → Implies p q → (ss : List Slot) → NonePass q ss → NonePass p ss
none_pass_too p q h [] n = tt
none_pass_too p q h (s ∷ ss) n = (false_too p q (chars s.0) h n.0, none_pass_too p q h ss n.1)

once_too : (p q : List ℕ → Bool) → Implies p q → (ss : List Slot) → OncePasses q ss → OncePasses p ss
once_too p q h [] n = tt
once_too p q h (s ∷ ss) n = (λ e. none_pass_too p q h ss (n.0 (h (chars s.0) e)), once_too p q h ss n.1)

nothing_too : (p q : List ℕ → Bool) → Implies p q → (ms : List Member) → first_by q (pairs ms) ≡ None
    → first_by p (pairs ms) ≡ None
nothing_too p q h [] n = refl
nothing_too p q h (m ∷ ms) n =
    let parts = passed_by q m ms (q m.0) refl n in
    ap (λ b. if b then Some m.1 else first_by p (pairs ms)) (false_too p q m.0 h parts.0)
    ∙ nothing_too p q h ms parts.1

not_found : (p : List ℕ → Bool) (ss : List Slot) → NonePass p ss → found p ss ≡ None
not_found p [] n = refl
not_found p (s ∷ ss) n = ap (λ b. if b then s.1 else found p ss) n.0 ∙ not_found p ss n.1

or_itself : (o : Option Json) → or_else o o ≡ o
or_itself None = refl
or_itself (Some j) = refl

either_by : (p q : List ℕ → Bool) (s : Slot) (ss : List Slot) (a b : Bool) → p (chars s.0) ≡ a → q (chars s.0) ≡ b
    → Implies p q → (q (chars s.0) ≡ true → NonePass q ss) → or_else (found p ss) (found q ss) ≡ found q ss
    → or_else (if a then s.1 else found p ss) (if b then s.1 else found q ss) ≡ (if b then s.1 else found q ss)
either_by p q s ss true true d e h once rest = or_itself s.1
either_by p q s ss true false d e h once rest = let c : true ≡ false = sym (h (chars s.0) d) ∙ e in cc
either_by p q s ss false true d e h once rest =
    ap (λ o. or_else o s.1) (not_found p ss (none_pass_too p q h ss (once e)))
either_by p q s ss false false d e h once rest = rest

-- where one slot passes at most, the exact look-up finds nothing else than the folded one
either : (p q : List ℕ → Bool) → Implies p q → (ss : List Slot) → OncePasses q ss
    → or_else (found p ss) (found q ss) ≡ found q ss
either p q h [] once = refl
either p q h (s ∷ ss) once =
    either_by p q s ss (p (chars s.0)) (q (chars s.0)) refl refl h once.0 (either p q h ss once.1)

-- ---- names that differ

-- each of the names differs from the name, in letters of any case
abbrev pub none_same : List ℕ → List (List ℕ) → Bool
none_same n [] = true
none_same n (m ∷ ms) = not (is_same_folded n m) && none_same n ms

-- names of ASCII characters that differ, in letters of any case
abbrev pub are_apart : List (List ℕ) → Bool
are_apart [] = true
are_apart (n ∷ ns) = list_all (λ b. nat_lt b 128) n && (none_same n ns && are_apart ns)

abbrev pub names : List Slot → List (List ℕ)
names [] = []
names (s ∷ ss) = s.0 ∷ names ss

-- the value of the slot of a name
abbrev pub slot_at : List ℕ → List Slot → Option Json
slot_at name [] = None
slot_at name (s ∷ ss) = if is_same_folded name s.0 then s.1 else slot_at name ss

folds_alike : (a b c : List ℕ) → is_same_folded a b ≡ true → is_same_folded a c ≡ true → is_same_folded b c ≡ true
folds_alike a b c e f =
    (bytes_eq-Decides (fold b) (fold c)).1
    (sym ((bytes_eq-Decides (fold a) (fold b)).0 e) ∙ (bytes_eq-Decides (fold a) (fold c)).0 f)

same_words : (a b : List ℕ) → list_all (λ b. nat_lt b 128) a ≡ true → list_all (λ b. nat_lt b 128) b ≡ true
    → is_same_folded (chars a) (chars b) ≡ is_same_folded a b
same_words a b e f = ap₂ is_same_folded (word a e) (word b f)

apart_by : (name n m : List ℕ) (b : Bool) → is_same_folded (chars name) (chars m) ≡ b
    → is_same_folded (chars name) (chars n) ≡ true → is_same_folded (chars n) (chars m) ≡ false → b ≡ false
apart_by name n m true e f g =
    let d : true ≡ false = sym (folds_alike (chars name) (chars n) (chars m) f e) ∙ g in cc
apart_by name n m false e f g = refl

none_passes : (name n : List ℕ) (ss : List Slot) → list_all (λ b. nat_lt b 128) n ≡ true
    → is_same_folded (chars name) (chars n) ≡ true → none_same n (names ss) ≡ true → are_apart (names ss) ≡ true
    → NonePass (is_same_folded (chars name)) ss
none_passes name n [] a f h g = tt
none_passes name n (s ∷ ss) a f h g =
    let here = both (not (is_same_folded n s.0)) (none_same n (names ss)) h in
    let there = both (list_all (λ b. nat_lt b 128) s.0) (none_same s.0 (names ss) && are_apart (names ss)) g in
    let rest = both (none_same s.0 (names ss)) (are_apart (names ss)) there.1 in (
      apart_by name n s.0 _ refl f (same_words n s.0 a there.0 ∙ of_not _ here.0),
      none_passes name n ss a f here.1 rest.1,
    )

pub once_apart : (name : List ℕ) (ss : List Slot) → are_apart (names ss) ≡ true
    → OncePasses (is_same_folded (chars name)) ss
once_apart name [] g = tt
once_apart name (s ∷ ss) g =
    let there = both (list_all (λ b. nat_lt b 128) s.0) (none_same s.0 (names ss) && are_apart (names ss)) g in
    let rest = both (none_same s.0 (names ss)) (are_apart (names ss)) there.1 in
    (λ f. none_passes name s.0 ss there.0 f rest.0 rest.1, once_apart name ss rest.1)

slot_found : (name : List ℕ) (ss : List Slot) → list_all (λ b. nat_lt b 128) name ≡ true → are_apart (names ss) ≡ true
    → found (is_same_folded (chars name)) ss ≡ slot_at name ss
slot_found name [] a g = refl
slot_found name (s ∷ ss) a g =
    let there = both (list_all (λ b. nat_lt b 128) s.0) (none_same s.0 (names ss) && are_apart (names ss)) g in
    let rest = both (none_same s.0 (names ss)) (are_apart (names ss)) there.1 in
    ap₂ (λ b o. if b then s.1 else o) (same_words name s.0 a there.0) (slot_found name ss a rest.1)

-- a name finds the value of its slot, where no other member has the name
pub look_slot : (name : List ℕ) (ss : List Slot) (ms : List Member) → list_all (λ b. nat_lt b 128) name ≡ true
    → are_apart (names ss) ≡ true → first_by (is_same_folded (chars name)) (pairs ms) ≡ None
    → inside name (Some (object (pairs (put_slots ss ms)))) ≡ slot_at name ss
look_slot name ss ms a g n =
    let q = is_same_folded (chars name) in
    let p = bytes_eq (chars name) in
    let h : Implies p q = exact_folds (chars name) in
    let once = once_apart name ss g in
    ap₂ or_else (found_in p ss (once_too p q h ss once) ms (nothing_too p q h ms n)) (found_in q ss once ms n)
    ∙ either p q h ss once ∙ slot_found name ss a g

-- ---- nesting

exact_none : (k : List ℕ) (ss : List Slot) → list_all (λ b. nat_lt b 128) k ≡ true → none_same k (names ss) ≡ true
    → are_apart (names ss) ≡ true → NonePass (bytes_eq (chars k)) ss
exact_none k ss a h g =
    none_pass_too (bytes_eq (chars k)) (is_same_folded (chars k)) (exact_folds (chars k)) ss
    (none_passes k k ss a ((bytes_eq-Decides (fold (chars k)) (fold (chars k))).1 refl) h g)

slot_nests : (n : ℕ) (k : List ℕ) (o : Option Json) (ss : List Slot) (ms : List Member)
    → NonePass (bytes_eq (chars k)) ss → members_nesting (put_slots ss (put_slot k o ms)) ≤ n → NestsWithin n o
unfolding put_slot
slot_nests n k None ss ms h d = tt
slot_nests n k (Some j) ss ms h d =
    omega (
      arith,
      d,
      first_by_nests (bytes_eq (chars k)) (pairs (put_slots ss (put (chars k) j ms))) j
          (unaffected (bytes_eq (chars k)) ss (put (chars k) j ms) h ∙ first_put_exact (chars k) j ms),
    )

-- the value of each slot nests no deeper than the members
pub slots_nest : (n : ℕ) (ss : List Slot) (ms : List Member) → are_apart (names ss) ≡ true
    → members_nesting (put_slots ss ms) ≤ n → SlotsNest n ss
slots_nest n [] ms g d = tt
slots_nest n (s ∷ ss) ms g d =
    let there = both (list_all (λ b. nat_lt b 128) s.0) (none_same s.0 (names ss) && are_apart (names ss)) g in
    let rest = both (none_same s.0 (names ss)) (are_apart (names ss)) there.1 in (
      slot_nests n s.0 s.1 ss ms (exact_none s.0 ss there.0 rest.0 rest.1) d,
      slots_nest n ss (put_slot s.0 s.1 ms) rest.1 d,
    )
