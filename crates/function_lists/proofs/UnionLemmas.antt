-- Objects united: what is put together, and how deep it nests.
use Rattle.std.proofs.Common.{◌≡◌, ◌<◌, ◌≤◌, ◌+◌, ℕ, zero, suc, Bool, true, false, List, [], ◌∷◌, ◌++◌, length}
use Rattle.std.proofs.Common.{get_or, drop, map, Option, Some, None, option_and_then, Ordering, Less, Equal, Greater}
use Rattle.std.proofs.Common.{refl, ap, sym, ◌∙◌, append_assoc, arith, add-one, bytes_eq, subst}
use Rattle.std.specs.Prelude.{if◌then◌else◌, cond}
use Rattle.std.specs.Ordering.{match_ordering}
use Rattle.std.specs.List.{filter}
use Rattle.std.proofs.Math.Seq.{drop-cons}
use Rattle.std.proofs.lemmas.List.{drop_all}
use Rattle.arm_value.specs.Json.{Json, null, bool, int, text, array, object, Pairs, no_pairs, pair, Member, pairs}
use Rattle.arm_value.specs.Json.{members, nesting, pairs_nesting, members_nesting, put, put_each, key_cmp, IsInOrder}
use Rattle.arm_value.specs.View.{json, member}
use Rattle.arm_value.specs.declared.value.Value.{Value}
use Rattle.arm_value.specs.declared.value.Field.{Field}
use Rattle.function_numbers.specs.Kinds.{members_of}
use Rattle.function_numbers.proofs.RowLemmas.{next_in, none_left}
use Rattle.function_lists.specs.Members.{value_at, object_at, under, updated, united, united_all}
use Rattle.function_lists.specs.Merge.{below, from, object_first, without_first, united_to}
use Rattle.function_lists.proofs.MergeLemmas.{merged, steps, from_in_order, without_in_order}
use Rattle.function_lists.proofs.FieldLemmas.{later_keys_above}
use Rattle.arm_value.proofs.TreeLemmas.{pairs-members}

pub next_field : (fs : List Field) (i : ℕ) (f : Field) → i < length fs → f ≡ get_or fs i f
    → map member (drop i fs) ≡ member f ∷ map member (drop (i + 1) fs)
next_field fs i f h e =
    rw (add-one, drop-cons fs i f h) (ap (λ (g : Field). member g ∷ map member (drop (suc i) fs)) (sym e))

pub no_field_left : (fs : List Field) (i : ℕ) → length fs ≤ i → map member (drop i fs) ≡ []
no_field_left fs i h = ap (map member) (drop_all i fs h)

-- ---- how deep a union nests

abbrev deepest : Option (List Member) → ℕ
deepest None = 0
deepest (Some ms) = suc (members_nesting ms)

abbrev valued : Option Json → ℕ
valued None = 0
valued (Some j) = nesting j

at_nests_by : (b : Bool) (j : Json) (o : Option Json) (n : ℕ) → nesting j ≤ n → valued o ≤ n
    → valued (if b then Some j else o) ≤ n
at_nests_by true j o n h g = h
at_nests_by false j o n h g = g

at_nests : (k : List ℕ) (ms : List Member) (n : ℕ) → members_nesting ms ≤ n → valued (value_at k ms) ≤ n
unfolding value_at
at_nests k [] n h = omega arith
at_nests k (m ∷ ms) n h =
    at_nests_by (bytes_eq k m.0) m.1 (value_at k ms) n (omega arith) (at_nests k ms n (omega arith))

object_nests : (o : Option Json) (n : ℕ) → valued o ≤ n → deepest (option_and_then members_of o) ≤ n
object_nests None n h = omega arith
object_nests (Some null) n h = omega arith
object_nests (Some (bool b)) n h = omega arith
object_nests (Some (int z)) n h = omega arith
object_nests (Some (text s)) n h = omega arith
object_nests (Some (array js)) n h = omega arith
object_nests (Some (object ms)) n h = rw (pairs-members ms) h

put_nests_by : (o : Ordering) (k : List ℕ) (j : Json) (m : Member) (ms : List Member) (n : ℕ) → nesting j ≤ n
    → members_nesting (m ∷ ms) ≤ n → members_nesting (put k j ms) ≤ n
    → members_nesting (match_ordering o ((k, j) ∷ m ∷ ms) ((k, j) ∷ ms) (m ∷ put k j ms)) ≤ n
put_nests_by Less k j m ms n p h r = omega arith
put_nests_by Equal k j m ms n p h r = omega arith
put_nests_by Greater k j m ms n p h r = omega arith

put_nests : (k : List ℕ) (j : Json) (ms : List Member) (n : ℕ) → nesting j ≤ n → members_nesting ms ≤ n
    → members_nesting (put k j ms) ≤ n
put_nests k j [] n p h = omega arith
put_nests k j (m ∷ ms) n p h = put_nests_by (key_cmp k m.0) k j m ms n p h (put_nests k j ms n p (omega arith))

put_each_nests : (ms ns : List Member) (n : ℕ) → members_nesting ms ≤ n → members_nesting ns ≤ n
    → members_nesting (put_each ms ns) ≤ n
put_each_nests ms [] n h g = h
put_each_nests ms (m ∷ ns) n h g = put_each_nests (put m.0 m.1 ms) ns n (put_nests m.0 m.1 ms n (omega arith) h)
    (omega arith)

pub append_nests : (ms ns : List Member) (n : ℕ) → members_nesting ms ≤ n → members_nesting ns ≤ n
    → members_nesting (ms ++ ns) ≤ n
append_nests [] ns n h g = g
append_nests (m ∷ ms) ns n h g = let rest = append_nests ms ns n (omega arith) g in omega arith

mutual
  under_nests : (o : Option (List Member)) (j : Json) (n : ℕ) → deepest o ≤ n → nesting j ≤ n → nesting (under o j) ≤ n
  under_nests None j n h g = g
  under_nests (Some ms) null n h g = g
  under_nests (Some ms) (bool b) n h g = g
  under_nests (Some ms) (int z) n h g = g
  under_nests (Some ms) (text s) n h g = g
  under_nests (Some ms) (array js) n h g = g
  under_nests (Some ms) (object ns) zero h g = absurd (omega arith)
  under_nests (Some ms) (object ns) (suc n) h g =
      let front : members_nesting ms ≤ n = omega arith in
      let back : members_nesting (updated ms ns) ≤ n = updated_nests ms ns n front (omega arith) in
      let all = put_each_nests [] (ms ++ updated ms ns) n (omega arith) (append_nests ms (updated ms ns) n front back)
      in
      omega arith

  updated_nests : (ms : List Member) (ns : Pairs) (n : ℕ) → members_nesting ms ≤ n → pairs_nesting ns ≤ n
      → members_nesting (updated ms ns) ≤ n
  updated_nests ms no_pairs n h g = omega arith
  updated_nests ms (pair k j ns) n h g =
      let first = under_nests (object_at k ms) j n (object_nests (value_at k ms) n (at_nests k ms n h)) (omega arith) in
      let rest = updated_nests ms ns n h (omega arith) in
      omega arith

-- a union of two objects nests no deeper than they do
pub united_nests : (ms : List Member) (ns : Pairs) → members_nesting ms ≤ 119 → pairs_nesting ns ≤ 119
    → members_nesting (united ms ns) ≤ 119
united_nests ms ns h g =
    put_each_nests [] (ms ++ updated ms ns) 119 (omega arith)
    (append_nests ms (updated ms ns) 119 h (updated_nests ms ns 119 h g))

-- ---- one member of the second after another

-- the members so far, and what the rest of the first makes with the rest of the second
pub united_more : (kept more ms rest : List Member) (fs : List Field) (i : ℕ) (f : Field) (all : List Member)
    → i < length fs → f ≡ get_or fs i f → IsInOrder ms → IsInOrder (map member fs)
    → more ≡ kept ++ united_to f.name (json f.value) ms → rest ≡ without_first f.name (from f.name ms)
    → kept ++ merged ms (pairs (map member (drop i fs))) ≡ all
    → more ++ merged rest (pairs (map member (drop (i + 1) fs))) ≡ all
united_more kept more ms rest fs i f all h e o p grown is_rest before =
    let k = f.name in
    let v = json f.value in
    let ns = pairs (map member (drop (i + 1) fs)) in
    let here : Member = (k, under (object_first k (from k ms)) v) in
    let after = merged (without_first k (from k ms)) ns in
    let step : merged ms (pairs (map member (drop i fs))) ≡ below k ms ++ here ∷ after =
    ap (λ os. merged ms (pairs os)) (next_field fs i f h e) ∙ steps k v ms ns o (later_keys_above fs i f p h e) in
    rw (grown, is_rest) (append_assoc kept (below k ms ++ here ∷ []) after
    ∙ ap (λ r. kept ++ r) (append_assoc (below k ms) (here ∷ []) after ∙ sym step) ∙ before)

pub rest_in_order : (k : List ℕ) (ms rest : List Member) → IsInOrder ms → rest ≡ without_first k (from k ms)
    → IsInOrder rest
rest_in_order k ms rest o is_rest =
    subst IsInOrder (sym is_rest) (without_in_order k (from k ms) (from_in_order k ms o))

pub united_ends : (kept ms : List Member) (fs : List Field) (i : ℕ) (all : List Member) → length fs ≤ i
    → kept ++ merged ms (pairs (map member (drop i fs))) ≡ all → kept ++ ms ≡ all
united_ends kept ms fs i all h before = sym (ap (λ os. kept ++ merged ms (pairs os)) (no_field_left fs i h)) ∙ before

-- ---- one object after another

all-cons : (ms : List Member) (j : Json) (js : List Json)
    → united_all ms (j ∷ js) ≡ option_and_then (λ ns. united_all (united ms (pairs ns)) js) (members_of j)
unfolding united_all
all-cons ms j js = refl

all-nil : (ms : List Member) → united_all ms [] ≡ Some ms
unfolding united_all
all-nil ms = refl

pub all_more : (ms next ns : List Member) (vs : List Value) (i : ℕ) (v : Value) (all : Option (List Member))
    → i < length vs → v ≡ get_or vs i v → ◌≡◌ {A = Option (List Member)} (Some ns) (members_of (json v))
    → next ≡ united ms (pairs ns)
    → united_all ms (map json (drop i vs)) ≡ all → united_all next (map json (drop (i + 1) vs)) ≡ all
all_more ms next ns vs i v all h e n is_next before =
    let js = map json (drop (i + 1) vs) in
    rw is_next (ap (option_and_then (λ os. united_all (united ms (pairs os)) js)) n
    ∙ sym (ap (united_all ms) (next_in vs i v h e) ∙ all-cons ms (json v) js) ∙ before)

pub all_fails : (ms : List Member) (vs : List Value) (i : ℕ) (v : Value) (all : Option (List Member)) → i < length vs
    → v ≡ get_or vs i v → ◌≡◌ {A = Option (List Member)} None (members_of (json v))
    → united_all ms (map json (drop i vs)) ≡ all → ◌≡◌ {A = Option (List Member)} None all
all_fails ms vs i v all h e n before =
    let js = map json (drop (i + 1) vs) in
    ap (option_and_then (λ os. united_all (united ms (pairs os)) js)) n
    ∙ sym (ap (united_all ms) (next_in vs i v h e) ∙ all-cons ms (json v) js) ∙ before

pub all_ends : (ms : List Member) (vs : List Value) (i : ℕ) (all : Option (List Member)) → length vs ≤ i
    → united_all ms (map json (drop i vs)) ≡ all → ◌≡◌ {A = Option (List Member)} (Some ms) all
all_ends ms vs i all h before = sym (ap (united_all ms) (none_left vs i h) ∙ all-nil ms) ∙ before

-- ---- members that pass

pass_by : (b : Bool) (kept more ms : List Member) (m : Member) → more ≡ (if b then kept ++ m ∷ [] else kept)
    → more ++ ms ≡ kept ++ (cond b (m ∷ ms) ms)
pass_by true kept more ms m n = rw n (append_assoc kept (m ∷ []) ms)
pass_by false kept more ms m n = rw n refl

pub pass_more : (p : Member → Bool) (kept more : List Member) (fs : List Field) (i : ℕ) (f : Field)
    (all : List Member) → i < length fs → f ≡ get_or fs i f
    → more ≡ (if p (member f) then kept ++ member f ∷ [] else kept)
    → kept ++ filter p (map member (drop i fs)) ≡ all → more ++ filter p (map member (drop (i + 1) fs)) ≡ all
pass_more p kept more fs i f all h e m before =
    pass_by (p (member f)) kept more (filter p (map member (drop (i + 1) fs))) (member f) m
    ∙ ap (λ ms. kept ++ filter p ms) (sym (next_field fs i f h e)) ∙ before
