-- Members that are read one after another, and the object of them.
use Rattle.std.proofs.Common.{◌≡◌, ℕ, List, [], ◌∷◌, ◌++◌, Option, Some, None, Bool, true, false, refl, ap, ◌∙◌}
use Rattle.std.specs.Prelude.{◌||◌, ◌&&◌, if◌then◌else◌}
use Rattle.foundation.proofs.TruthValues.{or_false}
use Rattle.arm_value.specs.Json.{Json, Member, put, put_each}
use Rattle.arm_env.specs.Object.{object_of}
use Rattle.arm_eval.specs.Trees.{are_new, differ, names_of, joined}
use Rattle.bicep_emission.specs.Alike.{Seen, after}
use Rattle.bicep_emission.proofs.SeenLemmas.{then_seen, both_seen, done_seen}
use Rattle.emitted_trees.proofs.ItemLemmas.{Item, nothing, named, marked, put_seen, onto}

-- a member in front of others
abbrev pub front : List ℕ → Seen Json → Seen (List Member) → Seen (List Member)
front k s t = then_seen (both_seen s t) (λ p. done_seen (Some ((k, p.0) ∷ p.1)))

abbrev pub front_item : Item → Seen (List Member) → Seen (List Member)
front_item nothing t = t
front_item (named k s) t = front k s t

-- all that are read, in their order
abbrev pub collected : List Item → Seen (List Member)
collected [] = done_seen (Some [])
collected (i ∷ is) = front_item i (collected is)

-- ---- put among others

abbrev pub all_put : List Member → Seen (List Member) → Seen (List Member)
all_put base t = then_seen t (λ ms. done_seen (Some (put_each base ms)))

some_front : (k : List ℕ) (j : Json) (b : Bool) (base : List Member) (t : Seen (List Member))
    → all_put base (front k (Some j, b) t) ≡ after b (all_put (put k j base) t)
some_front k j b base (Some ms, c) = refl
some_front k j b base (None, c) = refl

none_front : (k : List ℕ) (b : Bool) (base : List Member) (t : Seen (List Member))
    → all_put base (front k (None, b) t) ≡ (let r : Seen (List Member) = (None, t.1 || b) in r)
none_front k b base (Some ms, c) = refl
none_front k b base (None, c) = refl

front_marks : (k : List ℕ) (s : Seen Json) (t : Seen (List Member)) → (front k s t).1 ≡ (t.1 || s.1)
front_marks k (Some j, b) (Some ms, c) = refl
front_marks k (Some j, b) (None, c) = refl
front_marks k (None, b) (Some ms, c) = refl
front_marks k (None, b) (None, c) = refl

collected_marks : (is : List Item) → (collected is).1 ≡ marked is
collected_marks [] = refl
collected_marks (nothing ∷ is) = collected_marks is
collected_marks (named k s ∷ is) = front_marks k s (collected is) ∙ ap (λ m. m || s.1) (collected_marks is)

put_by : (k : List ℕ) (s : Seen Json) (base : List Member) (is : List Item)
    → ((ms : List Member) → all_put ms (collected is) ≡ onto ms is)
    → all_put base (front k s (collected is)) ≡ put_seen k s base (λ ms. onto ms is) (marked is)
put_by k (Some j, b) base is h = some_front k j b base (collected is) ∙ ap (after b) (h (put k j base))
put_by k (None, b) base is h =
    none_front k b base (collected is)
    ∙ ap (λ m. let r : Seen (List Member) = (None, m || b) in r) (collected_marks is)

pub collected_put : (is : List Item) (base : List Member) → all_put base (collected is) ≡ onto base is
collected_put [] base = refl
collected_put (nothing ∷ is) base = collected_put is base
collected_put (named k s ∷ is) base = put_by k s base is (collected_put is)

-- ---- one list and then another

abbrev pub in_turn : Seen (List Member) → Seen (List Member) → Seen (List Member)
in_turn s t = then_seen (both_seen s t) (λ p. done_seen (Some (p.0 ++ p.1)))

marks_of : Option (List Member) → Bool → Seen (List Member)
marks_of o b = (o, b)

or_assoc : (a b c : Bool) → (a || (b || c)) ≡ ((a || b) || c)
or_assoc true b c = refl
or_assoc false b c = refl

none_in_turn : (t : Seen (List Member)) → in_turn (done_seen (Some [])) t ≡ t
none_in_turn (Some ms, c) = ap (λ m. let r : Seen (List Member) = (Some ms, m) in r) (or_false c)
none_in_turn (None, c) = ap (λ m. let r : Seen (List Member) = (None, m) in r) (or_false c)

front_in_turn : (k : List ℕ) (s : Seen Json) (t u : Seen (List Member))
    → in_turn (front k s t) u ≡ front k s (in_turn t u)
front_in_turn k (Some j, b) (Some ms, c) (Some ns, d) =
    ap (λ m. let r : Seen (List Member) = (Some ((k, j) ∷ ms ++ ns), m) in r) (or_assoc d c b)
front_in_turn k (Some j, b) (Some ms, c) (None, d) =
    ap (λ m. let r : Seen (List Member) = (None, m) in r) (or_assoc d c b)
front_in_turn k (Some j, b) (None, c) (Some ns, d) =
    ap (λ m. let r : Seen (List Member) = (None, m) in r) (or_assoc d c b)
front_in_turn k (Some j, b) (None, c) (None, d) =
    ap (λ m. let r : Seen (List Member) = (None, m) in r) (or_assoc d c b)
front_in_turn k (None, b) (Some ms, c) (Some ns, d) =
    ap (λ m. let r : Seen (List Member) = (None, m) in r) (or_assoc d c b)
front_in_turn k (None, b) (Some ms, c) (None, d) =
    ap (λ m. let r : Seen (List Member) = (None, m) in r) (or_assoc d c b)
front_in_turn k (None, b) (None, c) (Some ns, d) =
    ap (λ m. let r : Seen (List Member) = (None, m) in r) (or_assoc d c b)
front_in_turn k (None, b) (None, c) (None, d) =
    ap (λ m. let r : Seen (List Member) = (None, m) in r) (or_assoc d c b)

pub collected_in_turn : (xs ys : List Item) → in_turn (collected xs) (collected ys) ≡ collected (xs ++ ys)
collected_in_turn [] ys = none_in_turn (collected ys)
collected_in_turn (nothing ∷ xs) ys = collected_in_turn xs ys
collected_in_turn (named k s ∷ xs) ys =
    front_in_turn k s (collected xs) (collected ys) ∙ ap (front k s) (collected_in_turn xs ys)

-- ---- names

abbrev pub item_names : List Item → List (List ℕ)
item_names [] = []
item_names (nothing ∷ is) = item_names is
item_names (named k s ∷ is) = k ∷ item_names is

-- the members have these names, where they have values
abbrev NamedAs : Option (List Member) → List (List ℕ) → Type 0
NamedAs None ks = Unit {0}
NamedAs (Some ms) ks = names_of ms ≡ ks

front_named : (k : List ℕ) (s : Seen Json) (t : Seen (List Member)) (ks : List (List ℕ)) → NamedAs t.0 ks
    → NamedAs (front k s t).0 (k ∷ ks)
front_named k (Some j, b) (Some ms, c) ks h = ap (λ (ns : List (List ℕ)). k ∷ ns) h
front_named k (Some j, b) (None, c) ks h = tt
front_named k (None, b) (Some ms, c) ks h = tt
front_named k (None, b) (None, c) ks h = tt

collected_named : (is : List Item) → NamedAs (collected is).0 (item_names is)
collected_named [] = refl
collected_named (nothing ∷ is) = collected_named is
collected_named (named k s ∷ is) = front_named k s (collected is) (item_names is) (collected_named is)

new_names : (names ks : List (List ℕ)) (s t : Seen (List Member)) → NamedAs t.0 ks
    → (are_new names ks && differ ks) ≡ true
    → then_seen (both_seen s t) (λ p. done_seen (joined names p.0 p.1))
    ≡ then_seen (in_turn s t) (λ ms. done_seen (Some (object_of ms)))
new_names names ks (Some ms, b) (Some gs, c) h e =
    ap (λ q. let r : Seen Json = (if q then Some (object_of (ms ++ gs)) else None, c || b) in r)
    (ap (λ ns. are_new names ns && differ ns) h ∙ e)
new_names names ks (Some ms, b) (None, c) h e = refl
new_names names ks (None, b) (Some gs, c) h e = refl
new_names names ks (None, b) (None, c) h e = refl

-- the object of members and of others, whose names it does not have and which differ
pub object_seen : (names : List (List ℕ)) (xs ys : List Item)
    → (are_new names (item_names ys) && differ (item_names ys)) ≡ true
    → then_seen (both_seen (collected xs) (collected ys)) (λ p. done_seen (joined names p.0 p.1))
    ≡ then_seen (collected (xs ++ ys)) (λ ms. done_seen (Some (object_of ms)))
object_seen names xs ys e =
    new_names names (item_names ys) (collected xs) (collected ys) (collected_named ys) e
    ∙ ap (λ t. then_seen t (λ ms. done_seen (Some (object_of ms)))) (collected_in_turn xs ys)
