-- A tree and its data of `serde_json`, part by part.
use Rattle.std.proofs.Common.{◌≡◌, ◌≤◌, ℕ, zero, suc, ◌<◌, length, get_or, max, Option, Some, None, List, [], ◌∷◌}
use Rattle.std.proofs.Common.{◌++◌, option_map, map, string_bytes, String, Global, encode_utf8_all, refl, ap, ap₂}
use Rattle.std.proofs.Common.{sym, ◌∙◌, arith, rules, subst, Less, nat_cmp}
use Rattle.std.specs.List.{AllByRecursion}
use Rattle.std.specs.List.Sorted.{IsStrictlySortedBy}
use Rattle.std.specs.Map.{keys_of}
use Rattle.std.specs.String.{string_cmp}
use Rattle.std.specs.Cmp.Lexicographic.{slice_cmp}
use Rattle.serde_json.specs.Data as d
use Rattle.serde_json.specs.View.{view, items_view, items_of, members_view}
use Rattle.serde_json.specs.declared.value.Value.{Value}
use Rattle.serde_json.specs.declared.value.Value as V
use Rattle.serde_json.proofs.Views.{Entry}
use Rattle.arm_value.proofs.GatherLemmas.{map-same}
use Rattle.arm_value.specs.Json.{Json, null, bool, int, text, array, object, Row, no_items, item, Pairs, no_pairs}
use Rattle.arm_value.specs.Json.{pair, Member, row, pairs, keys, nesting, row_nesting, pairs_nesting, IsInOrder}
use Rattle.arm_value.specs.Json.{key_cmp}
use Rattle.arm_value.specs.Reading.{data_of, row_data, pairs_data, or_else, not_whole, items_not_whole}
use Rattle.arm_value.specs.Reading.{members_not_whole}

mutual
  pub depth-data_of : (j : Json) → d.depth (data_of j) ≡ nesting j
  depth-data_of null = refl
  depth-data_of (bool b) = refl
  depth-data_of (int z) = refl
  depth-data_of (text s) = refl
  depth-data_of (array js) = ap suc (items_depth-row_data js)
  depth-data_of (object ms) = ap suc (members_depth-pairs_data ms)

  pub items_depth-row_data : (js : Row) → d.items_depth (row_data js) ≡ row_nesting js
  items_depth-row_data no_items = refl
  items_depth-row_data (item j js) = ap₂ max (depth-data_of j) (items_depth-row_data js)

  pub members_depth-pairs_data : (ms : Pairs) → d.members_depth (pairs_data ms) ≡ pairs_nesting ms
  members_depth-pairs_data no_pairs = refl
  members_depth-pairs_data (pair k j ms) = ap₂ max (depth-data_of j) (members_depth-pairs_data ms)

-- the items, and then these
abbrev pub then_items : List Json → d.Items → d.Items
then_items [] ds = ds
then_items (j ∷ js) ds = d.item (data_of j) (then_items js ds)

pub then_items-push : (js : List Json) (j : Json) (ds : d.Items)
    → then_items (js ++ j ∷ []) ds ≡ then_items js (d.item (data_of j) ds)
then_items-push [] j ds = refl
then_items-push (x ∷ js) j ds = ap (d.item (data_of x)) (then_items-push js j ds)

pub then_items-none : (js : List Json) → then_items js d.no_items ≡ row_data (row js)
then_items-none [] = refl
then_items-none (x ∷ js) = ap (d.item (data_of x)) (then_items-none js)

abbrev pub then_members : List Member → d.Members → d.Members
then_members [] ds = ds
then_members (m ∷ ms) ds = d.member (encode_utf8_all m.0) (data_of m.1) (then_members ms ds)

pub then_members-push : (ms : List Member) (m : Member) (ds : d.Members)
    → then_members (ms ++ m ∷ []) ds ≡ then_members ms (d.member (encode_utf8_all m.0) (data_of m.1) ds)
then_members-push [] m ds = refl
then_members-push (x ∷ ms) m ds = ap (d.member (encode_utf8_all x.0) (data_of x.1)) (then_members-push ms m ds)

pub then_members-none : (ms : List Member) → then_members ms d.no_members ≡ pairs_data (pairs ms)
then_members-none [] = refl
then_members-none (x ∷ ms) = ap (d.member (encode_utf8_all x.0) (data_of x.1)) (then_members-none ms)

-- each key is below those after it
abbrev pub AllAfter : List ℕ → d.Members → Type 0
AllAfter k d.no_members = Unit {0}
AllAfter k (d.member l x ms) = (slice_cmp nat_cmp k l ≡ Less) × AllAfter k ms

abbrev pub Ascends : d.Members → Type 0
Ascends d.no_members = Unit {0}
Ascends (d.member k x ms) = AllAfter k ms × Ascends ms

all_after : (k : String Global) (es : List Entry) → AllByRecursion (λ y. string_cmp k y ≡ Less) (keys_of es)
    → AllAfter (string_bytes k) (members_view es)
all_after k [] h = tt
all_after k (e ∷ es) h = (h.0, all_after k es h.1)

pub Ascends-members_view : (es : List Entry) → IsStrictlySortedBy string_cmp (keys_of es) → Ascends (members_view es)
unfolding IsStrictlySortedBy
Ascends-members_view [] h = tt
Ascends-members_view (e ∷ es) h = (all_after e.0 es h.0, Ascends-members_view es h.1)

all_before_last : (k : List ℕ) (ms : List Member) (m : Member) (x : d.Data) (more : d.Members)
    → AllAfter (encode_utf8_all k) (then_members ms (d.member (encode_utf8_all m.0) x more))
    → AllByRecursion (λ y. key_cmp k y ≡ Less) (keys (ms ++ m ∷ []))
all_before_last k [] m x more h = (h.0, tt)
all_before_last k (n ∷ ms) m x more h = (h.0, all_before_last k ms m x more h.1)

pub last_in_order : (ms : List Member) (m : Member) (x : d.Data) (more : d.Members)
    → Ascends (then_members ms (d.member (encode_utf8_all m.0) x more)) → IsInOrder (ms ++ m ∷ [])
unfolding IsStrictlySortedBy
last_in_order [] m x more h = (tt, tt)
last_in_order (n ∷ ms) m x more h = (all_before_last n.0 ms m x more h.0, last_in_order ms m x more h.1)

pub or_else_none : (a b : Option (List ℕ)) → or_else a b ≡ None → b ≡ None
or_else_none None b e = e
or_else_none (Some p) b e = absurd (cc)

-- what an item keeps of its list
pub item_depth : (vs : List Value) (i : ℕ) (v : Value) → i < length vs → v ≡ get_or vs i v
    → d.depth (view v) ≤ d.items_depth (items_view vs)
item_depth [] i v h e = absurd (omega arith)
item_depth (x ∷ vs) zero v h e = let same = ap (λ y. d.depth (view y)) e in omega arith
item_depth (x ∷ vs) (suc i) v h e = omega (arith, item_depth vs i v (omega arith) e)

pub or_else_first : (a b : Option (List ℕ)) → or_else a b ≡ None → a ≡ None
or_else_first None b e = refl
or_else_first (Some p) b e = e

pub mapped_none : (f : List ℕ → List ℕ) (o : Option (List ℕ)) → option_map f o ≡ None → o ≡ None
mapped_none f None e = refl
mapped_none f (Some p) e = absurd (cc)

pub item_whole : (n : ℕ) (vs : List Value) (i : ℕ) (v : Value) → items_not_whole n (items_view vs) ≡ None
    → i < length vs → v ≡ get_or vs i v → not_whole (view v) ≡ None
item_whole n [] i v w h e = absurd (omega arith)
item_whole n (x ∷ vs) zero v w h e = ap (λ y. not_whole (view y)) e ∙ mapped_none _ _ (or_else_first _ _ w)
item_whole n (x ∷ vs) (suc i) v w h e = item_whole (suc n) vs i v (or_else_none _ _ w) (omega arith) e

row_data-row : (js : List Json) → row_data (row js) ≡ items_of (map data_of js)
row_data-row [] = refl
row_data-row (j ∷ js) = ap (d.item (data_of j)) (row_data-row js)

pub all_items : (js : List Json) (done vs : List Value) → map data_of js ≡ map view done → map (λ v. v) done ≡ vs
    → row_data (row js) ≡ items_view vs
all_items js done vs e all = row_data-row js ∙ ap items_of (e ∙ ap (map view) (sym (map-same done) ∙ all))

pub data_nests : (x : d.Data) (j : Json) (n : ℕ) → data_of j ≡ x → d.depth x ≤ n → nesting j ≤ n
data_nests x j n same h = omega (arith, depth-data_of j, ap d.depth same)

pub member_whole : (k : List ℕ) (x : d.Data) (more : d.Members) → members_not_whole (d.member k x more) ≡ None
    → not_whole x ≡ None
member_whole k x more w = mapped_none _ _ (or_else_first _ _ w)

pub member_nests : (k : List ℕ) (x : d.Data) (more : d.Members) (j : Json) → d.members_depth (d.member k x more) ≤ 119
    → data_of j ≡ x → nesting j ≤ 119
member_nests k x more j n same = omega (arith, n, depth-data_of j, ap d.depth same)

pub members_whole_step : (k : List ℕ) (x : d.Data) (more : d.Members) → members_not_whole (d.member k x more) ≡ None
    → members_not_whole more ≡ None
members_whole_step k x more w = or_else_none _ _ w

pub view-String : (s : String Global) → view (V.String s) ≡ d.string (string_bytes s)
view-String s = search (rules, V.the_lemmas)

-- the next member of a loop over a map
pub members_step : (all : d.Members) (found new : List Member) (e : Entry) (left : List Entry) (m : Member)
    → all ≡ then_members found (members_view (e ∷ left)) → encode_utf8_all m.0 ≡ string_bytes e.0
    → data_of m.1 ≡ view e.1
    → new ≡ found ++ m ∷ [] → all ≡ then_members new (members_view left)
members_step all found new e left m a name same n = a ∙ sym (rw (n, then_members-push, name, same) refl)

pub next_in_order : (all : d.Members) (found : List Member) (e : Entry) (left : List Entry) (m : Member)
    → all ≡ then_members found (members_view (e ∷ left)) → Ascends all → encode_utf8_all m.0 ≡ string_bytes e.0
    → IsInOrder (found ++ m ∷ [])
next_in_order all found e left m a ascends name =
    last_in_order found m (view e.1) (members_view left) (rw name (subst Ascends a ascends))
