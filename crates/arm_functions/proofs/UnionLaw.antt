-- What a union of two objects has at a key.
use Rattle.std.proofs.Common.{◌≡◌, ℕ, Bool, true, false, List, [], ◌∷◌, ◌++◌, bytes_eq, Option, Some, None}
use Rattle.std.proofs.Common.{option_map, option_and_then, if◌then◌else◌, Ordering, Less, Equal, Greater}
use Rattle.std.proofs.Common.{encode_utf8_all, refl, sym, ap, ap₂, ◌∙◌, subst}
use Rattle.std.specs.Ordering.{match_ordering, ordering_reverse}
use Rattle.std.specs.List.{AllByRecursion}
use Rattle.std.specs.List.Sorted.{IsStrictlySortedBy}
use Rattle.std.proofs.lemmas.Cmp.{nat_list_cmp_total}
use Rattle.std.proofs.lemmas.Slice.Eq.{bytes_eq-Decides}
use Rattle.arm_value.specs.Json.{Json, null, bool, int, text, array, object, Pairs, no_pairs, pair, Member, pairs}
use Rattle.arm_value.specs.Json.{members, keys, key_cmp, put, put_each, IsInOrder}
use Rattle.arm_value.specs.Look.{or_else}
use Rattle.arm_value.proofs.SetLemmas.{equal_keys}
use Rattle.function_numbers.specs.Kinds.{members_of}
use Rattle.function_prints.specs.Members.{value_at, under, updated, united, united_all, union}
use Rattle.arm_functions.specs.Laws.{united_values, later_value}
use Rattle.arm_value.proofs.TreeLemmas.{pairs-members, members-pairs}

-- ---- keys

not_reversed : (o : Ordering) → o ≡ ordering_reverse o → o ≡ Greater → ⊥
not_reversed Less e f = cc
not_reversed Equal e f = cc
not_reversed Greater e f = cc

not_less : (o : Ordering) → o ≡ ordering_reverse o → o ≡ Less → ⊥
not_less Less e f = cc
not_less Equal e f = cc
not_less Greater e f = cc

with_itself : (k : List ℕ) → key_cmp k k ≡ ordering_reverse (key_cmp k k)
with_itself k = nat_list_cmp_total.antisymm (encode_utf8_all k) (encode_utf8_all k)

-- a key is at most one of two that are in order
one_of : (k n l : List ℕ) → key_cmp n l ≡ Greater → bytes_eq k n ≡ true → bytes_eq k l ≡ false
one_of k n l g e = by (bytes_eq k l) refl
  where
    by : (b : Bool) → bytes_eq k l ≡ b → b ≡ false
    by true f =
        let same : n ≡ l = sym ((bytes_eq-Decides k n).0 e) ∙ (bytes_eq-Decides k l).0 f in
        absurd (not_reversed (key_cmp n n) (with_itself n) (ap (key_cmp n) same ∙ g))
    by false f = refl

-- ---- members that were put

-- the value where the key is met
hit : Bool → Json → Option Json
hit b j = if b then Some j else None

at-cons : (k : List ℕ) (m : Member) (ms : List Member)
    → value_at k (m ∷ ms) ≡ (if bytes_eq k m.0 then Some m.1 else value_at k ms)
unfolding value_at
at-cons k m ms = refl

at-nil : (k : List ℕ) → value_at k [] ≡ None
unfolding value_at
at-nil k = refl

here_or : (b : Bool) (j : Json) (o : Option Json) → (if b then Some j else o) ≡ or_else (hit b j) o
unfolding hit
here_or true j o = refl
here_or false j o = refl

replaced_or : (b : Bool) (j i : Json) (o : Option Json)
    → (if b then Some j else o) ≡ or_else (hit b j) (if b then Some i else o)
unfolding hit
replaced_or true j i o = refl
replaced_or false j i o = refl

later_or : (b c : Bool) (j i : Json) (o : Option Json) → (b ≡ true → c ≡ false)
    → (if c then Some i else or_else (hit b j) o) ≡ or_else (hit b j) (if c then Some i else o)
unfolding hit
later_or true true j i o h = absurd (let e : true ≡ false = h refl in cc)
later_or true false j i o h = refl
later_or false c j i o h = refl

at_put_by : (o : Ordering) (k n : List ℕ) (j : Json) (m : Member) (ms : List Member) → key_cmp n m.0 ≡ o
    → value_at k (put n j ms) ≡ or_else (hit (bytes_eq k n) j) (value_at k ms)
    → value_at k (match_ordering o ((n, j) ∷ m ∷ ms) ((n, j) ∷ ms) (m ∷ put n j ms)) ≡ or_else (hit (bytes_eq k n) j)
    (value_at k (m ∷ ms))
at_put_by Less k n j m ms c h = at-cons k (n, j) (m ∷ ms) ∙ here_or (bytes_eq k n) j (value_at k (m ∷ ms))
at_put_by Equal k n j m ms c h =
    let same : n ≡ m.0 = equal_keys n m.0 c in
    at-cons k (n, j) ms ∙ replaced_or (bytes_eq k n) j m.1 (value_at k ms)
    ∙ ap (λ (l : List ℕ). or_else (hit (bytes_eq k n) j) (if bytes_eq k l then Some m.1 else value_at k ms)) same
    ∙ ap (or_else (hit (bytes_eq k n) j)) (sym (at-cons k m ms))
at_put_by Greater k n j m ms c h =
    at-cons k m (put n j ms) ∙ ap (λ o. if bytes_eq k m.0 then Some m.1 else o) h
    ∙ later_or (bytes_eq k n) (bytes_eq k m.0) j m.1 (value_at k ms) (one_of k n m.0 c)
    ∙ ap (or_else (hit (bytes_eq k n) j)) (sym (at-cons k m ms))

at_put : (k n : List ℕ) (j : Json) (ms : List Member)
    → value_at k (put n j ms) ≡ or_else (hit (bytes_eq k n) j) (value_at k ms)
at_put k n j [] = at-cons k (n, j) [] ∙ here_or (bytes_eq k n) j (value_at k [])
at_put k n j (m ∷ ms) = at_put_by (key_cmp n m.0) k n j m ms refl (at_put k n j ms)

-- the value of the last member of this key
last_at : List ℕ → List Member → Option Json
last_at k [] = None
last_at k (m ∷ ms) = or_else (last_at k ms) (hit (bytes_eq k m.0) m.1)

or_else-none : (o : Option Json) → or_else o None ≡ o
or_else-none None = refl
or_else-none (Some j) = refl

or_else-assoc : (o p q : Option Json) → or_else o (or_else p q) ≡ or_else (or_else o p) q
or_else-assoc None p q = refl
or_else-assoc (Some j) p q = refl

at_each : (k : List ℕ) (ns ms : List Member) → value_at k (put_each ms ns) ≡ or_else (last_at k ns) (value_at k ms)
unfolding last_at
at_each k [] ms = refl
at_each k (n ∷ ns) ms = at_each k ns (put n.0 n.1 ms) ∙ ap (or_else (last_at k ns)) (at_put k n.0 n.1 ms)
    ∙ or_else-assoc (last_at k ns) (hit (bytes_eq k n.0) n.1) (value_at k ms)

last-append : (k : List ℕ) (ms ns : List Member) → last_at k (ms ++ ns) ≡ or_else (last_at k ns) (last_at k ms)
unfolding last_at
last-append k [] ns = sym (or_else-none (last_at k ns))
last-append k (m ∷ ms) ns = ap (λ o. or_else o (hit (bytes_eq k m.0) m.1)) (last-append k ms ns)
    ∙ sym (or_else-assoc (last_at k ns) (last_at k ms) (hit (bytes_eq k m.0) m.1))

-- ---- members in order

above_is_other : (k l : List ℕ) → key_cmp k l ≡ Less → bytes_eq k l ≡ false
above_is_other k l g = by (bytes_eq k l) refl
  where
    by : (b : Bool) → bytes_eq k l ≡ b → b ≡ false
    by true f = absurd (not_less (key_cmp k k) (with_itself k) (ap (key_cmp k) ((bytes_eq-Decides k l).0 f) ∙ g))
    by false f = refl

none_above : (k : List ℕ) (ms : List Member) → AllByRecursion (λ y. key_cmp k y ≡ Less) (keys ms) → last_at k ms ≡ None
unfolding last_at hit
none_above k [] h = refl
none_above k (m ∷ ms) h = rw (above_is_other k m.0 h.0) (or_else-none (last_at k ms) ∙ none_above k ms h.1)

last_in_order_by : (b : Bool) (k : List ℕ) (m : Member) (ms : List Member) → bytes_eq k m.0 ≡ b
    → AllByRecursion (λ y. key_cmp m.0 y ≡ Less) (keys ms) → last_at k ms ≡ value_at k ms
    → or_else (last_at k ms) (hit b m.1) ≡ (if b then Some m.1 else value_at k ms)
unfolding hit
last_in_order_by true k m ms e h l =
    let same : m.0 ≡ k = sym ((bytes_eq-Decides k m.0).0 e) in
    ap (λ o. or_else o (Some m.1))
    (none_above k ms (subst (λ (x : List ℕ). AllByRecursion (λ y. key_cmp x y ≡ Less) (keys ms)) same h))
last_in_order_by false k m ms e h l = or_else-none (last_at k ms) ∙ l

last_in_order : (k : List ℕ) (ms : List Member) → IsInOrder ms → last_at k ms ≡ value_at k ms
unfolding last_at IsStrictlySortedBy
last_in_order k [] h = sym (at-nil k)
last_in_order k (m ∷ ms) h = last_in_order_by (bytes_eq k m.0) k m ms refl h.0 (last_in_order k ms h.1)
    ∙ sym (at-cons k m ms)

-- ---- what the union has

-- the second value, united with the first where both are objects
over : Option Json → Json → Json
over o j = under (option_and_then members_of o) j

last_updated_by : (b : Bool) (f : Json → Json) (i j : Json) (o : Option Json) → (b ≡ true → i ≡ f j)
    → or_else (option_map f o) (hit b i) ≡ option_map f (or_else o (hit b j))
unfolding hit
last_updated_by true f i j None h = ap Some (h refl)
last_updated_by false f i j None h = refl
last_updated_by b f i j (Some x) h = refl

last_updated : (k : List ℕ) (ms : List Member) (ns : Pairs)
    → last_at k (updated ms ns) ≡ option_map (over (value_at k ms)) (last_at k (members ns))
unfolding last_at over
last_updated k ms no_pairs = refl
last_updated k ms (pair l j ns) =
    ap (λ o. or_else o (hit (bytes_eq k l) (over (value_at l ms) j))) (last_updated k ms ns)
    ∙ last_updated_by (bytes_eq k l) (over (value_at k ms)) (over (value_at l ms) j) j (last_at k (members ns))
    (λ e. ap (λ (x : List ℕ). over (value_at x ms) j) (sym ((bytes_eq-Decides k l).0 e)))

union_of_two : (ms ns : Pairs) → union (object ms ∷ object ns ∷ []) ≡ Some (object (pairs (united (members ms) ns)))
unfolding united_all
union_of_two ms ns = ap (λ (ns : Pairs). Some (object (pairs (united (members ms) ns)))) (pairs-members ns)

value_over : (i j : Json) → Some (over (Some i) j) ≡ united_values i j
unfolding over
value_over null j = refl
value_over (bool b) j = refl
value_over (int z) j = refl
value_over (text s) j = refl
value_over (array js) j = refl
value_over (object ms) null = refl
value_over (object ms) (bool b) = refl
value_over (object ms) (int z) = refl
value_over (object ms) (text s) = refl
value_over (object ms) (array js) = refl
value_over (object ms) (object ns) = sym (union_of_two ms ns)

over_or : (o p : Option Json) → or_else (option_map (over o) p) o ≡ later_value o p
unfolding over
over_or o None = refl
over_or None (Some j) = refl
over_or (Some i) (Some j) = value_over i j

at_united : (k : List ℕ) (ms ns : List Member) → IsInOrder ms → IsInOrder ns
    → value_at k (united ms (pairs ns)) ≡ later_value (value_at k ms) (value_at k ns)
at_united k ms ns hm hn =
    at_each k (ms ++ updated ms (pairs ns)) [] ∙ ap (or_else (last_at k (ms ++ updated ms (pairs ns)))) (at-nil k)
    ∙ or_else-none (last_at k (ms ++ updated ms (pairs ns)))
    ∙ last-append k ms (updated ms (pairs ns))
    ∙ ap₂ or_else (last_updated k ms (pairs ns)
    ∙ ap (option_map (over (value_at k ms))) (ap (last_at k) (members-pairs ns) ∙ last_in_order k ns hn))
    (last_in_order k ms hm)
    ∙ over_or (value_at k ms) (value_at k ns)

same_members : (ms ns : List Member) → ◌≡◌ {A = Option Json} (Some (object (pairs ms))) (Some (object (pairs ns)))
    → ms ≡ ns
same_members ms ns e =
    let same : pairs ms ≡ pairs ns = cc in
    sym (members-pairs ms) ∙ ap members same ∙ members-pairs ns

pub later_value_stands : (k : List ℕ) (ms ns us : List Member) → IsInOrder ms → IsInOrder ns
    → union (object (pairs ms) ∷ object (pairs ns) ∷ []) ≡ Some (object (pairs us))
    → value_at k us ≡ later_value (value_at k ms) (value_at k ns)
later_value_stands k ms ns us hm hn e =
    let same : us ≡ united ms (pairs ns) =
    same_members us (united ms (pairs ns)) (sym e ∙ union_of_two (pairs ms) (pairs ns)
    ∙ ap (λ (x : List Member). Some (object (pairs (united x (pairs ns))))) (members-pairs ms)) in
    ap (value_at k) same ∙ at_united k ms ns hm hn
