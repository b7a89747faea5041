-- Lemmas on arrays and objects that are gathered part by part.
use Rattle.std.proofs.Common.{◌≡◌, ℕ, Option, Some, None, List, option_map, refl, suc, ap, max, ap₂, Bool, true}
use Rattle.std.proofs.Common.{false, if◌then◌else◌, [], ◌∷◌, ◌++◌, sym, subst, ◌≤◌, ◌<◌, length, get_or, map, arith}
use Rattle.std.proofs.Common.{◌+◌, drop, ◌∙◌}
use Rattle.arm_value.specs.Json.{Json, nesting, Row, row_nesting, Pairs, pairs_nesting, text, array, object, item}
use Rattle.arm_value.specs.Json.{no_items, row, pair, Member, no_pairs, pairs, keys, IsInOrder, key_cmp}
use Rattle.arm_value.specs.Json.{items_nesting, members_nesting}
use Rattle.arm_value.specs.Gathered.{item_before, pair_before}
use Rattle.std.specs.List.{AllByRecursion}
use Rattle.std.specs.List.Sorted.{IsStrictlySortedBy}
use Rattle.foundation.proofs.Lists.{next_item}
use Rattle.arm_value.proofs.GatherLemmas.{front_in_order}
use Rattle.arm_value.specs.View.{json, member}
use Rattle.arm_value.specs.declared.value.Value.{Value}
use Rattle.arm_value.specs.declared.value.Field.{Field}
use Rattle.arm_value.proofs.JsonLemmas as parts

abbrev pub ValueNests : ℕ → Option Json → Type 0
ValueNests n None = Unit {0}
ValueNests n (Some j) = nesting j ≡ n

abbrev pub RowNests : ℕ → Option Row → Type 0
RowNests n None = Unit {0}
RowNests n (Some js) = row_nesting js ≡ n

abbrev pub PairsNest : ℕ → Option Pairs → Type 0
PairsNest n None = Unit {0}
PairsNest n (Some ms) = pairs_nesting ms ≡ n

pub text_nests : (o : Option (List ℕ)) → ValueNests 0 (option_map (λ t. text t) o)
text_nests None = tt
text_nests (Some t) = refl

pub array_nests : (n : ℕ) (o : Option Row) → RowNests n o → ValueNests (suc n) (option_map (λ r. array r) o)
array_nests n None h = tt
array_nests n (Some js) h = ap suc h

pub object_nests : (n : ℕ) (o : Option Pairs) → PairsNest n o → ValueNests (suc n) (option_map (λ ms. object ms) o)
object_nests n None h = tt
object_nests n (Some ms) h = ap suc h

pub item_nests : (m n : ℕ) (o : Option Json) (p : Option Row) → ValueNests m o → RowNests n p
    → RowNests (max m n) (item_before o p)
item_nests m n None p h g = tt
item_nests m n (Some j) None h g = tt
item_nests m n (Some j) (Some js) h g = ap₂ max h g

pub pair_nests : (m n : ℕ) (k : List ℕ) (o : Option Json) (p : Option Pairs) → ValueNests m o → PairsNest n p
    → PairsNest (max m n) (pair_before k o p)
pair_nests m n k None p h g = tt
pair_nests m n k (Some j) None h g = tt
pair_nests m n k (Some j) (Some ms) h g = ap₂ max h g

pub unless_nests : (b : Bool) (n : ℕ) (o : Option Pairs) → PairsNest n o → PairsNest n (if b then None else o)
unless_nests true n o h = tt
unless_nests false n o h = h

abbrev pub then_row : List Json → Row → Row
then_row [] r = r
then_row (j ∷ js) r = item j (then_row js r)

pub then_row-push : (js : List Json) (j : Json) (r : Row) → then_row (js ++ j ∷ []) r ≡ then_row js (item j r)
then_row-push [] j r = refl
then_row-push (x ∷ js) j r = ap (item x) (then_row-push js j r)

pub then_row-none : (js : List Json) → then_row js no_items ≡ row js
then_row-none [] = refl
then_row-none (x ∷ js) = ap (item x) (then_row-none js)

abbrev pub then_pairs : List Member → Pairs → Pairs
then_pairs [] ps = ps
then_pairs (m ∷ ms) ps = pair m.0 m.1 (then_pairs ms ps)

pub then_pairs-push : (ms : List Member) (m : Member) (ps : Pairs)
    → then_pairs (ms ++ m ∷ []) ps ≡ then_pairs ms (pair m.0 m.1 ps)
then_pairs-push [] m ps = refl
then_pairs-push (x ∷ ms) m ps = ap (pair x.0 x.1) (then_pairs-push ms m ps)

pub then_pairs-none : (ms : List Member) → then_pairs ms no_pairs ≡ pairs ms
then_pairs-none [] = refl
then_pairs-none (x ∷ ms) = ap (pair x.0 x.1) (then_pairs-none ms)

abbrev pub with_row : List Json → Option Row → Option Row
with_row js None = None
with_row js (Some r) = Some (then_row js r)

abbrev pub with_pairs : List Member → Option Pairs → Option Pairs
with_pairs ms None = None
with_pairs ms (Some ps) = Some (then_pairs ms ps)

pub with_row-push : (js : List Json) (j : Json) (o : Option Row)
    → with_row js (item_before (Some j) o) ≡ with_row (js ++ j ∷ []) o
with_row-push js j None = refl
with_row-push js j (Some r) = ap Some (sym (then_row-push js j r))

pub with_pairs-push : (ms : List Member) (m : Member) (o : Option Pairs)
    → with_pairs ms (pair_before m.0 (Some m.1) o) ≡ with_pairs (ms ++ m ∷ []) o
with_pairs-push ms m None = refl
with_pairs-push ms m (Some ps) = ap Some (sym (then_pairs-push ms m ps))

pub keys-append : (ms ns : List Member) → keys (ms ++ ns) ≡ keys ms ++ keys ns
keys-append [] ns = refl
keys-append (m ∷ ms) ns = ap (λ r. m.0 ∷ r) (keys-append ms ns)

pub all_but : (P : List ℕ → Type 0) (ms : List Member) (m : Member) (ns : List Member)
    → AllByRecursion P (keys (ms ++ m ∷ ns)) → AllByRecursion P (keys (ms ++ ns))
all_but P [] m ns h = h.1
all_but P (x ∷ ms) m ns h = (h.0, all_but P ms m ns h.1)

pub without_one : (ms : List Member) (m : Member) (ns : List Member) → IsInOrder (ms ++ m ∷ ns) → IsInOrder (ms ++ ns)
unfolding IsStrictlySortedBy
without_one [] m ns h = h.1
without_one (x ∷ ms) m ns h = (all_but _ ms m ns h.0, without_one ms m ns h.1)

pub with_value : (ms : List Member) (k : List ℕ) (i j : Json) (ns : List Member) → IsInOrder (ms ++ (k, i) ∷ ns)
    → IsInOrder ((ms ++ (k, j) ∷ []) ++ ns)
with_value ms k i j ns h = subst (IsStrictlySortedBy key_cmp) (same ms) h
  where
    same : (ms : List Member) → keys (ms ++ (k, i) ∷ ns) ≡ keys ((ms ++ (k, j) ∷ []) ++ ns)
    same [] = refl
    same (x ∷ ms) = ap (λ r. x.0 ∷ r) (same ms)

pub next_last : (ms : List Member) (k : List ℕ) (i j : Json) (ns : List Member) → IsInOrder (ms ++ (k, i) ∷ ns)
    → IsInOrder (ms ++ (k, j) ∷ [])
next_last ms k i j ns h = front_in_order (ms ++ (k, j) ∷ []) ns (with_value ms k i j ns h)

pub item_within : (vs : List Value) (js : List Json) (i : ℕ) (v : Value) → map json vs ≡ js → i < length vs
    → v ≡ get_or vs i v → nesting (json v) ≤ items_nesting js
item_within vs js i v e h is = omega (arith, parts.item_nests vs i v h is, ap items_nesting e)

pub member_within : (fs : List Field) (ms : List Member) (i : ℕ) (f : Field) → map member fs ≡ ms → i < length fs
    → f ≡ get_or fs i f → nesting (json f.value) ≤ members_nesting ms
member_within fs ms i f e h is = omega (arith, parts.member_nests fs i f h is, ap members_nesting e)

pub member_last : (found : List Member) (fs : List Field) (i : ℕ) (f : Field) (name : List ℕ) (k : Json)
    → IsInOrder (found ++ map member (drop i fs)) → i < length fs → f ≡ get_or fs i f → name ≡ f.name
    → IsInOrder (found ++ (name, k) ∷ [])
member_last found fs i f name k o h is e =
    subst (λ (n : List ℕ). IsInOrder (found ++ (n, k) ∷ [])) (sym e)
    (next_last found f.name (json f.value) k (map member (drop (i + 1) fs))
    (subst (λ ds. IsInOrder (found ++ map member ds)) (next_item fs i f h is) o))

pub members_ordered : (found new : List Member) (fs : List Field) (i : ℕ) (f : Field) (name : List ℕ) (k : Json)
    → IsInOrder (found ++ map member (drop i fs)) → i < length fs → f ≡ get_or fs i f → name ≡ f.name
    → new ≡ found ++ (name, k) ∷ []
    → IsInOrder (new ++ map member (drop (i + 1) fs))
members_ordered found new fs i f name k o h is e n =
    let last = with_value found f.name (json f.value) k (map member (drop (i + 1) fs))
    (subst (λ ds. IsInOrder (found ++ map member ds)) (next_item fs i f h is) o) in
    subst (λ ms. IsInOrder (ms ++ map member (drop (i + 1) fs))) (ap (λ (l : List ℕ). found ++ (l, k) ∷ []) (sym e)
    ∙ sym n) last
