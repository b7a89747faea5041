-- What follows where nothing is refused: no part is, no name is taken twice, and no member is missing.
use Rattle.std.proofs.Common.{◌≡◌, ℕ, ◌&&◌, ◌++◌, bytes_eq, chars, nat_lt, Bool, true, false}
use Rattle.std.proofs.Common.{List, [], ◌∷◌, Option, Some, None, option_map, is_some, if◌then◌else◌, refl, sym, ap, ◌∙◌}
use Rattle.std.specs.List.{list_all, list_any}
use Rattle.std.proofs.lemmas.Slice.Eq.{bytes_eq-Decides}
use Rattle.foundation.proofs.Words.{eq_word, swapped}
use Rattle.arm_value.specs.Json.{Json, object, Pairs, no_pairs, pair, pair_keys}
use Rattle.arm_value.specs.Look.{fold, is_same_folded, first_by, look_in, or_else}
use Rattle.foundation.proofs.AsciiWords.{word}
use Rattle.foundation.proofs.TruthValues.{or_left, or_right, nor}
use Rattle.name_set.specs.Names.{is_named}
use Rattle.template_faults.specs.Faults.{named, earlier}
use Rattle.template_members.specs.Objects.{Single, Rule, member_by, faulty_by, members_fault}
use Rattle.template_meaning.specs.Values.{inside}
use Rattle.template_parts.specs.declared.fault.TemplateFault.{TemplateFault}
use Rattle.template_parts.specs.declared.fault.TemplateFault.TheVariants.{WrongForm}
use Rattle.template_values.specs.Order.{below, first_of, then_faults, then_members, missing, has, is_before, decided}
use Rattle.template_values.specs.declared.order.Faulty.{Faulty}

-- ---- faults of several parts

pub first_none : (a b : Option TemplateFault) → first_of a b ≡ None → (a ≡ None) × (b ≡ None)
first_none None b e = (refl, e)
first_none (Some f) b e = cc

below_none : (s : List ℕ) (o : Option TemplateFault) → option_map (below s) o ≡ None → o ≡ None
below_none s None e = refl
below_none s (Some f) e = cc

pub then_none : (s : List ℕ) (a b : Option TemplateFault) → then_faults s a b ≡ None → (a ≡ None) × (b ≡ None)
then_none s a b e = let p = first_none (option_map (below s) a) b e in (below_none s a p.0, p.1)

pub then_nothing : (s : List ℕ) (a b : Option TemplateFault) → a ≡ None → b ≡ None → then_faults s a b ≡ None
then_nothing s a b e f = ap (λ x. then_faults s x b) e ∙ f

pub members_none : (k : List ℕ) (a : Option TemplateFault) (b : Option Faulty) → then_members k a b ≡ None
    → (a ≡ None) × (b ≡ None)
members_none k None b e = (refl, e)
members_none k (Some f) b e = cc

pub members_nothing : (k : List ℕ) (a : Option TemplateFault) (b : Option Faulty) → a ≡ None → b ≡ None
    → then_members k a b ≡ None
members_nothing k a b e f = ap (λ x. then_members k x b) e ∙ f

some_by : {A : Type 0} (b : Bool) (f g : A) → (if b then Some f else Some g) ≡ None → ⊥
some_by true f g e = cc
some_by false f g e = cc

pub decided_none : (m : Option (List ℕ)) (f : Option Faulty) → decided m f ≡ None → (m ≡ None) × (f ≡ None)
decided_none None None e = (refl, refl)
decided_none None (Some f) e = cc
decided_none (Some n) None e = cc
decided_none (Some n) (Some f) e = absurd (some_by (is_before n f.name) _ _ e)

pub earlier_none : (a b : Option Faulty) → earlier a b ≡ None → (a ≡ None) × (b ≡ None)
earlier_none None b e = (refl, e)
earlier_none (Some f) None e = cc
earlier_none (Some f) (Some g) e = absurd (some_by (is_before g.name f.name) g f e)

pub named_none : (k : List ℕ) (o : Option TemplateFault) → named k o ≡ None → o ≡ None
named_none k None e = refl
named_none k (Some f) e = cc

-- ---- names, in letters of any case

pub same_fold : (a b : List ℕ) → is_same_folded a b ≡ true → fold a ≡ fold b
same_fold a b e = (bytes_eq-Decides (fold a) (fold b)).0 e

pub turned_folded : (a b : List ℕ) → is_same_folded a b ≡ is_same_folded b a
turned_folded a b = swapped (fold a) (fold b)

pub exact_folds : (a b : List ℕ) → bytes_eq a b ≡ true → is_same_folded a b ≡ true
exact_folds a b e = (bytes_eq-Decides (fold a) (fold b)).1 (ap fold (eq_word a b e))

-- ---- what is or is not there

abbrev pub Holds : (Json → Type 0) → Option Json → Type 0
Holds P None = Unit {0}
Holds P (Some j) = P j

pub always : (P : Json → Type 0) → ((j : Json) → P j) → (o : Option Json) → Holds P o
always P h None = tt
always P h (Some j) = h j

pub holding : (P Q : Json → Type 0) → ((j : Json) → P j → Q j) → (o : Option Json) → Holds P o → Holds Q o
holding P Q h None p = tt
holding P Q h (Some j) p = h j p

-- ---- members that are accepted, and names that differ

-- the rule accepts each member
abbrev pub Accepts : Rule → Pairs → Type 0
Accepts rule no_pairs = Unit {0}
Accepts rule (pair k j ms) = (rule k j ≡ None) × Accepts rule ms

-- none of these names is the name, where it may be there once alone
abbrev pub Differ : Single → List ℕ → List (List ℕ) → Type 0
Differ single k [] = Unit {0}
Differ single k (l ∷ ls) = (single l ≡ true → is_same_folded l k ≡ false) × Differ single k ls

-- the names differ
abbrev pub Apart : Single → List (List ℕ) → Type 0
Apart single [] = Unit {0}
Apart single (k ∷ ks) = Differ single k ks × Apart single ks

abbrev AllDiffer : Single → List (List ℕ) → List (List ℕ) → Type 0
AllDiffer single [] ks = Unit {0}
AllDiffer single (s ∷ ss) ks = Differ single s ks × AllDiffer single ss ks

-- each name is new, after these
abbrev Fresh : Single → List (List ℕ) → List (List ℕ) → Type 0
Fresh single seen [] = Unit {0}
Fresh single seen (k ∷ ks) = (single k ≡ true → is_named seen k ≡ false) × Fresh single (seen ++ k ∷ []) ks

any_front : (q : List ℕ → Bool) (xs : List (List ℕ)) (k : List ℕ) → list_any q (xs ++ k ∷ []) ≡ false
    → (list_any q xs ≡ false) × (q k ≡ false)
any_front q [] k e = (refl, or_left (q k) false e)
any_front q (x ∷ xs) k e =
    let p = any_front q xs k (or_right (q x) (list_any q (xs ++ k ∷ [])) e) in
    (nor (q x) (list_any q xs) (or_left (q x) (list_any q (xs ++ k ∷ [])) e) p.0, p.1)

pub any_back : (q : List ℕ → Bool) (xs : List (List ℕ)) (k : List ℕ) → list_any q xs ≡ false → q k ≡ false
    → list_any q (xs ++ k ∷ []) ≡ false
any_back q [] k e f = nor (q k) false f refl
any_back q (x ∷ xs) k e f =
    nor (q x) (list_any q (xs ++ k ∷ [])) (or_left (q x) (list_any q xs) e)
    (any_back q xs k (or_right (q x) (list_any q xs) e) f)

differ_front : (single : Single) (seen : List (List ℕ)) (k : List ℕ) (ks : List (List ℕ))
    → AllDiffer single (seen ++ k ∷ []) ks → AllDiffer single seen ks × Differ single k ks
differ_front single [] k ks h = (tt, h.0)
differ_front single (s ∷ seen) k ks h = let p = differ_front single seen k ks h.1 in ((h.0, p.0), p.1)

differ_back : (single : Single) (seen : List (List ℕ)) (k : List ℕ) (ks : List (List ℕ))
    → AllDiffer single seen ks → Differ single k ks → AllDiffer single (seen ++ k ∷ []) ks
differ_back single [] k ks h d = (d, tt)
differ_back single (s ∷ seen) k ks h d = (h.0, differ_back single seen k ks h.1 d)

all_first : (single : Single) (seen : List (List ℕ)) (k : List ℕ) (ks : List (List ℕ))
    → (single k ≡ true → is_named seen k ≡ false) → AllDiffer single seen ks → AllDiffer single seen (k ∷ ks)
all_first single [] k ks h a = tt
all_first single (s ∷ seen) k ks h a = (
  (λ e. or_left (is_same_folded k s) (is_named seen k) (h e), a.0),
  all_first single seen k ks (λ e. or_right (is_same_folded k s) (is_named seen k) (h e)) a.1,
)

rest_first : (single : Single) (seen : List (List ℕ)) (k : List ℕ) (ks : List (List ℕ))
    → AllDiffer single seen (k ∷ ks) → (single k ≡ true → is_named seen k ≡ false) × AllDiffer single seen ks
rest_first single [] k ks a = (λ e. refl, tt)
rest_first single (s ∷ seen) k ks a =
    let p = rest_first single seen k ks a.1 in
    (λ e. nor (is_same_folded k s) (is_named seen k) (a.0.0 e) (p.0 e), (a.0.1, p.1))

fresh_apart : (single : Single) (seen ks : List (List ℕ)) → Fresh single seen ks
    → AllDiffer single seen ks × Apart single ks
fresh_apart single [] [] h = (tt, tt)
fresh_apart single (s ∷ seen) [] h = ((tt, (fresh_apart single seen [] tt).0), tt)
fresh_apart single seen (k ∷ ks) h =
    let p = fresh_apart single (seen ++ k ∷ []) ks h.1 in
    let q = differ_front single seen k ks p.0 in
    (all_first single seen k ks h.0 q.0, (q.1, p.1))

apart_fresh : (single : Single) (seen ks : List (List ℕ)) → AllDiffer single seen ks → Apart single ks
    → Fresh single seen ks
apart_fresh single seen [] d a = tt
apart_fresh single seen (k ∷ ks) d a =
    let p = rest_first single seen k ks d in
    (p.0, apart_fresh single (seen ++ k ∷ []) ks (differ_back single seen k ks p.1 a.0) a.1)

-- a member that is accepted after others is new, and the rule accepts it
member_none : (single : Single) (rule : Rule) (seen : List (List ℕ)) (k : List ℕ) (j : Json)
    → member_by single rule seen k j ≡ None → (rule k j ≡ None) × (single k ≡ true → is_named seen k ≡ false)
member_none single rule seen k j e = by_tests (single k) (is_named seen k) e
  where
    by_tests : (a b : Bool) → (if a && b then Some (WrongForm []) else rule k j) ≡ None
        → (rule k j ≡ None) × (a ≡ true → b ≡ false)
    by_tests true true g = cc
    by_tests true false g = (g, λ t. refl)
    by_tests false b g = (g, λ t. let d : false ≡ true = t in cc)

member_nothing : (single : Single) (rule : Rule) (seen : List (List ℕ)) (k : List ℕ) (j : Json) → rule k j ≡ None
    → (single k ≡ true → is_named seen k ≡ false) → member_by single rule seen k j ≡ None
member_nothing single rule seen k j e f = by_tests (single k) (is_named seen k) f
  where
    by_tests : (a b : Bool) → (a ≡ true → b ≡ false) → (if a && b then Some (WrongForm []) else rule k j) ≡ None
    by_tests true true g = let d : true ≡ false = g refl in cc
    by_tests true false g = e
    by_tests false b g = e

faulty_after : (single : Single) (rule : Rule) (seen : List (List ℕ)) (ms : Pairs)
    → faulty_by single rule seen ms ≡ None → Accepts rule ms × Fresh single seen (pair_keys ms)
faulty_after single rule seen no_pairs e = (tt, tt)
faulty_after single rule seen (pair k j ms) e =
    let p = members_none k (member_by single rule seen k j) (faulty_by single rule (seen ++ k ∷ []) ms) e in
    let m = member_none single rule seen k j p.0 in
    let r = faulty_after single rule (seen ++ k ∷ []) ms p.1 in
    ((m.0, r.0), (m.1, r.1))

nothing_after : (single : Single) (rule : Rule) (seen : List (List ℕ)) (ms : Pairs) → Accepts rule ms
    → Fresh single seen (pair_keys ms) → faulty_by single rule seen ms ≡ None
nothing_after single rule seen no_pairs a f = refl
nothing_after single rule seen (pair k j ms) a f =
    members_nothing k (member_by single rule seen k j) (faulty_by single rule (seen ++ k ∷ []) ms)
    (member_nothing single rule seen k j a.0 f.0) (nothing_after single rule (seen ++ k ∷ []) ms a.1 f.1)

-- where no member is refused each is accepted, and their names differ
pub faulty_none : (single : Single) (rule : Rule) (ms : Pairs) → faulty_by single rule [] ms ≡ None
    → Accepts rule ms × Apart single (pair_keys ms)
faulty_none single rule ms e =
    let p = faulty_after single rule [] ms e in (p.0, (fresh_apart single [] (pair_keys ms) p.1).1)

pub faulty_nothing : (single : Single) (rule : Rule) (ms : Pairs) → Accepts rule ms → Apart single (pair_keys ms)
    → faulty_by single rule [] ms ≡ None
faulty_nothing single rule ms a d =
    nothing_after single rule [] ms a (apart_fresh single [] (pair_keys ms) tt d)

-- of an object that is not refused
pub record Sound (required : List (List ℕ)) (single : Single) (rule : Rule) (ms : Pairs) : Type 0 where
  pub there : missing required ms ≡ None
  pub accepted : Accepts rule ms
  pub apart : Apart single (pair_keys ms)

pub sound_members : (required : List (List ℕ)) (single : Single) (rule : Rule) (ms : Pairs)
    → members_fault required single rule ms ≡ None → Sound required single rule ms
sound_members required single rule ms e =
    let p = decided_none (missing required ms) (faulty_by single rule [] ms) e in
    let q = faulty_none single rule ms p.1 in
    record { there = p.0; accepted = q.0; apart = q.1 }

-- ---- what is found in members that differ

with_folded : (name k : List ℕ) (b : Bool) → is_same_folded name k ≡ b → bytes_eq name k ≡ true → b ≡ true
with_folded name k true e f = refl
with_folded name k false e f = sym e ∙ exact_folds name k f

-- after a member of the name in letters of any case there is none of exactly the name
none_exact : (single : Single) (name k : List ℕ) (ms : Pairs)
    → ((l : List ℕ) → is_same_folded name l ≡ true → single l ≡ true) → is_same_folded name k ≡ true
    → Differ single k (pair_keys ms) → first_by (bytes_eq name) ms ≡ None
none_exact single name k no_pairs s e d = refl
none_exact single name k (pair l j ms) s e d =
    ap (λ b. if b then Some j else first_by (bytes_eq name) ms) (is_other (bytes_eq name l) refl)
    ∙ none_exact single name k ms s e d.1
  where
    is_other : (b : Bool) → bytes_eq name l ≡ b → b ≡ false
    is_other true f =
        let g = exact_folds name l f in
        let c : is_same_folded l k ≡ true = ap (λ n. is_same_folded n k) (sym (eq_word name l f)) ∙ e in
        sym c ∙ d.0 (s l g)
    is_other false f = refl

-- where the name may be there once alone, the exact look-up and the folded one find the same
pub look_single : (single : Single) (name : List ℕ) (ms : Pairs)
    → ((l : List ℕ) → is_same_folded name l ≡ true → single l ≡ true) → Apart single (pair_keys ms)
    → look_in name ms ≡ first_by (is_same_folded name) ms
look_single single name no_pairs s a = refl
look_single single name (pair k j ms) s a =
    by_tests (bytes_eq name k) (is_same_folded name k) refl refl (look_single single name ms s a.1)
  where
    by_tests : (x y : Bool) → bytes_eq name k ≡ x → is_same_folded name k ≡ y
        → look_in name ms ≡ first_by (is_same_folded name) ms
        → or_else (if x then Some j else first_by (bytes_eq name) ms)
        (if y then Some j else first_by (is_same_folded name) ms)
        ≡ (if y then Some j else first_by (is_same_folded name) ms)
    by_tests true true e f h = refl
    by_tests true false e f h = let c : false ≡ true = with_folded name k false f e in cc
    by_tests false true e f h = ap (λ o. or_else o (Some j)) (none_exact single name k ms s f a.0)
    by_tests false false e f h = h

-- what is found exactly is found in letters of any case
exact_found : (name : List ℕ) (ms : Pairs) → is_some (first_by (bytes_eq name) ms) ≡ true
    → is_some (first_by (is_same_folded name) ms) ≡ true
exact_found name no_pairs e = e
exact_found name (pair k j ms) e =
    by_tests (bytes_eq name k) (is_same_folded name k) refl refl (λ g. exact_found name ms g) e
  where
    by_tests : (x y : Bool) → bytes_eq name k ≡ x → is_same_folded name k ≡ y
        → (is_some (first_by (bytes_eq name) ms) ≡ true → is_some (first_by (is_same_folded name) ms) ≡ true)
        → is_some (if x then Some j else first_by (bytes_eq name) ms) ≡ true
        → is_some (if y then Some j else first_by (is_same_folded name) ms) ≡ true
    by_tests x true d f h g = refl
    by_tests true false d f h g = let c : false ≡ true = with_folded name k false f d in cc
    by_tests false false d f h g = h g

some_either : (a b : Option Json) → (is_some a ≡ true → is_some b ≡ true) → is_some (or_else a b) ≡ is_some b
some_either None b h = refl
some_either (Some j) b h = sym (h refl)

-- whether a member has the name, is whether one is found
pub has_found : (name : List ℕ) (ms : Pairs) → has name ms ≡ is_some (look_in name ms)
has_found name ms =
    sym (some_either (first_by (bytes_eq name) ms) (first_by (is_same_folded name) ms) (exact_found name ms))

pub has_inside : (name : List ℕ) → list_all (λ b. nat_lt b 128) name ≡ true → (ms : Pairs)
    → has name ms ≡ is_some (inside name (Some (object ms)))
has_inside name a ms = ap (λ n. has n ms) (sym (word name a)) ∙ has_found (chars name) ms

-- ---- what is accepted of a name

-- of every name that is the name in letters of any case the rule says what it says of the name
abbrev pub At : Rule → List ℕ → Type 0
At rule name = (k : List ℕ) (j : Json) → fold k ≡ fold name → rule k j ≡ rule name j

first_accepted : (rule : Rule) (p : List ℕ → Bool) (name : List ℕ) (ms : Pairs) → At rule name
    → ((k : List ℕ) → p k ≡ true → fold k ≡ fold name) → Accepts rule ms
    → Holds (λ j. rule name j ≡ None) (first_by p ms)
first_accepted rule p name no_pairs at h a = tt
first_accepted rule p name (pair k j ms) at h a = by_test (p k) refl (first_accepted rule p name ms at h a.1)
  where
    by_test : (b : Bool) → p k ≡ b → Holds (λ j. rule name j ≡ None) (first_by p ms)
        → Holds (λ j. rule name j ≡ None) (if b then Some j else first_by p ms)
    by_test true e r = sym (at k j (h k e)) ∙ a.0
    by_test false e r = r

either_holds : (P : Json → Type 0) (a b : Option Json) → Holds P a → Holds P b → Holds P (or_else a b)
either_holds P None b h g = g
either_holds P (Some j) b h g = h

-- what is found of a name is accepted
pub found_accepted : (rule : Rule) (name : List ℕ) → list_all (λ b. nat_lt b 128) name ≡ true → At rule name
    → (ms : Pairs) → Accepts rule ms → Holds (λ j. rule name j ≡ None) (inside name (Some (object ms)))
found_accepted rule name w at ms a =
    let same = word name w in
    either_holds (λ j. rule name j ≡ None) (first_by (bytes_eq (chars name)) ms)
    (first_by (is_same_folded (chars name)) ms)
    (first_accepted rule (bytes_eq (chars name)) name ms at
    (λ k e. ap fold (sym (eq_word (chars name) k e) ∙ same)) a)
    (first_accepted rule (is_same_folded (chars name)) name ms at
    (λ k e. sym (same_fold (chars name) k e) ∙ ap fold same) a)
