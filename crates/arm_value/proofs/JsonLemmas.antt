-- Trees, and what stays true of them when a part is added.
use Rattle.std.proofs.Common.{◌≡◌, ◌≤◌, ℕ, zero, suc, ◌<◌, length, get_or, take, max, List, [], ◌∷◌, ◌++◌, map, refl}
use Rattle.std.proofs.Common.{ap, sym, ◌∙◌, arith, subst, Bool, true, false, Some, cond}
use Rattle.std.specs.List.Sorted.{IsStrictlySortedBy}
use Rattle.std.specs.List.{AllByRecursion}
use Rattle.arm_value.specs.View.{json, member}
use Rattle.arm_value.specs.declared.value.Value.{Value}
use Rattle.arm_value.specs.declared.value.Field.{Field}
use Rattle.arm_value.specs.Json.{Json, Member, keys, nesting, items_nesting, members_nesting, row, pairs}
use Rattle.arm_value.specs.Json.{RowIsOrderly, PairsAreOrderly, IsOrderly, IsInOrder, Pairs, no_pairs, pair}
use Rattle.arm_value.specs.Json.{pairs_nesting}
use Rattle.arm_value.specs.Kinds.{row_length}
use Rattle.arm_value.specs.Look.{first_by}

pub items_nesting-push : (js : List Json) (j : Json) → items_nesting (js ++ j ∷ []) ≡ max (items_nesting js) (nesting j)
items_nesting-push [] j = omega arith
items_nesting-push (x ∷ js) j = omega (arith, items_nesting-push js j)

pub RowIsOrderly-push : (js : List Json) (j : Json) → RowIsOrderly (row js) → IsOrderly j
    → RowIsOrderly (row (js ++ j ∷ []))
RowIsOrderly-push [] j h o = (o, tt)
RowIsOrderly-push (x ∷ js) j h o = (h.0, RowIsOrderly-push js j h.1 o)

pub members_nesting-push : (ms : List Member) (m : Member)
    → members_nesting (ms ++ m ∷ []) ≡ max (members_nesting ms) (nesting m.1)
members_nesting-push [] m = omega arith
members_nesting-push (x ∷ ms) m = omega (arith, members_nesting-push ms m)

pub PairsAreOrderly-push : (ms : List Member) (m : Member) → PairsAreOrderly (pairs ms) → IsOrderly m.1
    → PairsAreOrderly (pairs (ms ++ m ∷ []))
PairsAreOrderly-push [] m h o = (o, tt)
PairsAreOrderly-push (x ∷ ms) m h o = (h.0, PairsAreOrderly-push ms m h.1 o)

pub IsInOrder-nil : IsInOrder []
unfolding IsStrictlySortedBy
IsInOrder-nil = tt

pub item_nests : (vs : List Value) (i : ℕ) (v : Value) → i < length vs → v ≡ get_or vs i v
    → nesting (json v) ≤ items_nesting (map json vs)
item_nests [] i v h e = absurd (omega arith)
item_nests (x ∷ vs) zero v h e = rw e (omega arith)
item_nests (x ∷ vs) (suc i) v h e = omega (arith, item_nests vs i v (omega arith) e)

pub member_nests : (fs : List Field) (i : ℕ) (f : Field) → i < length fs → f ≡ get_or fs i f
    → nesting (json f.value) ≤ members_nesting (map member fs)
member_nests [] i f h e = absurd (omega arith)
member_nests (x ∷ fs) zero f h e = rw e (omega arith)
member_nests (x ∷ fs) (suc i) f h e = omega (arith, member_nests fs i f (omega arith) e)

all_take : (P : List ℕ → Type 0) (ms : List Member) (i : ℕ) → AllByRecursion P (keys ms)
    → AllByRecursion P (keys (take i ms))
all_take P [] zero h = tt
all_take P [] (suc i) h = tt
all_take P (m ∷ ms) zero h = tt
all_take P (m ∷ ms) (suc i) h = (h.0, all_take P ms i h.1)

pub IsInOrder-take : (ms : List Member) (i : ℕ) → IsInOrder ms → IsInOrder (take i ms)
unfolding IsStrictlySortedBy
IsInOrder-take [] zero h = tt
IsInOrder-take [] (suc i) h = tt
IsInOrder-take (m ∷ ms) zero h = tt
IsInOrder-take (m ∷ ms) (suc i) h = (all_take _ ms i h.0, IsInOrder-take ms i h.1)

pub map-take-more : {A B : Type 0} (f : A → B) (xs : List A) (i : ℕ) (x : A) → i < length xs → x ≡ get_or xs i x
    → map f (take (suc i) xs) ≡ map f (take i xs) ++ f x ∷ []
map-take-more f [] i x h e = absurd (omega arith)
map-take-more f (y ∷ xs) zero x h e = rw e refl
map-take-more f (y ∷ xs) (suc i) x h e = ap (λ r. f y ∷ r) (map-take-more f xs i x (omega arith) e)

pub map-take : {A B : Type 0} (f : A → B) (xs : List A) (i : ℕ) → map f (take i xs) ≡ take i (map f xs)
map-take f [] zero = refl
map-take f [] (suc i) = refl
map-take f (x ∷ xs) zero = refl
map-take f (x ∷ xs) (suc i) = ap (λ r. f x ∷ r) (map-take f xs i)

-- the members that a loop has come to are in order
pub next_in_order : (fs : List Field) (ms done : List Member) (i : ℕ) (f : Field) → map member fs ≡ ms → IsInOrder ms
    → i < length fs → f ≡ get_or fs i f → done ≡ map member (take i fs)
    → IsInOrder (done ++ member f ∷ [])
next_in_order fs ms done i f all ordered h e d =
    subst IsInOrder (sym (map-take member fs (suc i)) ∙ map-take-more member fs i f h e
    ∙ ap (λ r. r ++ member f ∷ []) (sym d)) (IsInOrder-take (map member fs) (suc i) (rw all ordered))

pub row_length_row : (js : List Json) → row_length (row js) ≡ length js
row_length_row [] = refl
row_length_row (j ∷ js) = ap suc (row_length_row js)

pub first_by_nests : (p : List ℕ → Bool) (ms : Pairs) (v : Json) → first_by p ms ≡ Some v → nesting v ≤ pairs_nesting ms
first_by_nests p no_pairs v e = cc
first_by_nests p (pair k j ms) v e = at_first (p k) e (first_by_nests p ms v)
  where
    at_first : (b : Bool) → cond b (Some j) (first_by p ms) ≡ Some v
        → (first_by p ms ≡ Some v → nesting v ≤ pairs_nesting ms) → nesting v ≤ max (nesting j) (pairs_nesting ms)
    at_first true e h = let same : j ≡ v = cc in omega (arith, ap nesting same)
    at_first false e h = omega (arith, h e)
