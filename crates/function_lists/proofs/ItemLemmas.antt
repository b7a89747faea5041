-- Arrays joined, and their distinct items.
use Rattle.std.proofs.Common.{◌≡◌, ◌<◌, ◌≤◌, ◌+◌, ℕ, Bool, true, false, List, [], ◌∷◌, ◌++◌, length, get_or, take}
use Rattle.std.proofs.Common.{drop, map, Option, Some, None, option_map, option_and_then, refl, ap, sym, ◌∙◌}
use Rattle.std.proofs.Common.{append_assoc, append-nil, add-one}
use Rattle.std.specs.Prelude.{if◌then◌else◌, not, cond, ◌&&◌}
use Rattle.std.specs.List.{filter, list_all}
use Rattle.arm_value.specs.Json.{Json}
use Rattle.arm_value.specs.View.{json}
use Rattle.arm_value.specs.declared.value.Value.{Value}
use Rattle.arm_value.specs.declared.value.Value.TheVariants.{Null, Bool as Truth, Int, Text, Array, Object}
use Rattle.arm_value.proofs.JsonLemmas.{map-take-more}
use Rattle.function_numbers.specs.Kinds.{items_of}
use Rattle.function_numbers.proofs.RowLemmas.{next_in, none_left}
use Rattle.function_lists.specs.Items.{joined, distinct, is_among, is_item_of, first_from, last_from, or_found, here}
use Rattle.arm_value.specs.Same.{is_same}

joined-nil : joined [] ≡ Some []
unfolding joined
joined-nil = refl

joined-cons : (j : Json) (js : List Json)
    → joined (j ∷ js) ≡ option_and_then (λ front. option_map (λ rest. front ++ rest) (joined js)) (items_of j)
unfolding joined
joined-cons j js = refl

joins_on : (front items : List Json) (o : Option (List Json))
    → option_map (λ rest. front ++ rest) (option_map (λ rest. items ++ rest) o)
    ≡ option_map (λ rest. (front ++ items) ++ rest) o
joins_on front items None = refl
joins_on front items (Some rest) = ap Some (sym (append_assoc front items rest))

-- one more array
pub joined_more : (front all items : List Json) (vs : List Value) (i : ℕ) (v : Value) (whole : Option (List Json))
    → i < length vs → v ≡ get_or vs i v → Some items ≡ items_of (json v) → all ≡ front ++ items
    → option_map (λ rest. front ++ rest) (joined (map json (drop i vs))) ≡ whole
    → option_map (λ rest. all ++ rest) (joined (map json (drop (i + 1) vs))) ≡ whole
joined_more front all items vs i v whole h e is_items grown before =
    let js = map json (drop (i + 1) vs) in
    let step : joined (map json (drop i vs)) ≡ option_map (λ rest. items ++ rest) (joined js) =
    ap joined (next_in vs i v h e) ∙ joined-cons (json v) js
    ∙ ap (option_and_then (λ front. option_map (λ rest. front ++ rest) (joined js))) (sym is_items) in
    rw grown (sym (joins_on front items (joined js)) ∙ ap (option_map (λ rest. front ++ rest)) (sym step) ∙ before)

pub joined_fails : (front : List Json) (vs : List Value) (i : ℕ) (v : Value) (whole : Option (List Json))
    → i < length vs → v ≡ get_or vs i v → None ≡ items_of (json v)
    → option_map (λ rest. front ++ rest) (joined (map json (drop i vs))) ≡ whole → None ≡ whole
joined_fails front vs i v whole h e none before =
    let js = map json (drop (i + 1) vs) in
    let step : joined (map json (drop i vs)) ≡ None = ap joined (next_in vs i v h e) ∙ joined-cons (json v) js
    ∙ ap (option_and_then (λ front. option_map (λ rest. front ++ rest) (joined js))) (sym none) in
    sym (ap (option_map (λ rest. front ++ rest)) step) ∙ before

pub joined_ends : (front : List Json) (vs : List Value) (i : ℕ) (whole : Option (List Json)) → length vs ≤ i
    → option_map (λ rest. front ++ rest) (joined (map json (drop i vs))) ≡ whole → Some front ≡ whole
joined_ends front vs i whole h before = ap Some (sym (append-nil front))
    ∙ sym (ap (option_map (λ rest. front ++ rest)) (ap joined (none_left vs i h) ∙ joined-nil)) ∙ before

-- ---- distinct items

distinct-nil : (before : List Json) → distinct before [] ≡ []
unfolding distinct
distinct-nil before = refl

distinct-cons : (before : List Json) (j : Json) (js : List Json)
    → distinct before (j ∷ js) ≡ (if is_among before j then distinct (before ++ j ∷ []) js
    else j ∷ distinct (before ++ j ∷ []) js)
unfolding distinct
distinct-cons before j js = refl

distinct_by : (b : Bool) (kept more before js : List Json) (j : Json)
    → more ≡ (if not b then kept ++ j ∷ [] else kept)
    → more ++ distinct (before ++ j ∷ []) js ≡ kept ++ (if b then distinct (before ++ j ∷ []) js
    else j ∷ distinct (before ++ j ∷ []) js)
distinct_by true kept more before js j m = rw m refl
distinct_by false kept more before js j m = rw m (append_assoc kept (j ∷ []) (distinct (before ++ j ∷ []) js))

-- one more item, which is kept where it is among none before
pub distinct_more : (kept more : List Json) (vs : List Value) (i : ℕ) (v : Value) (all : List Json) → i < length vs
    → v ≡ get_or vs i v
    → more ≡ (if not (is_among (map json (take i vs)) (json v)) then kept ++ json v ∷ [] else kept)
    → kept ++ distinct (map json (take i vs)) (map json (drop i vs)) ≡ all
    → more ++ distinct (map json (take (i + 1) vs)) (map json (drop (i + 1) vs)) ≡ all
distinct_more kept more vs i v all h e m before =
    let js = map json (drop (i + 1) vs) in
    let front : map json (take (i + 1) vs) ≡ map json (take i vs) ++ json v ∷ [] =
    rw add-one (map-take-more json vs i v h e) in
    let step : distinct (map json (take i vs)) (map json (drop i vs)) ≡ (if is_among (map json (take i vs)) (json v)
    then distinct (map json (take i vs) ++ json v ∷ []) js
    else json v ∷ distinct (map json (take i vs) ++ json v ∷ []) js) =
    ap (distinct (map json (take i vs))) (next_in vs i v h e) ∙ distinct-cons (map json (take i vs)) (json v) js in
    ap (λ fs. more ++ distinct fs js) front
    ∙ distinct_by (is_among (map json (take i vs)) (json v)) kept more (map json (take i vs)) js (json v) m
    ∙ ap (λ r. kept ++ r) (sym step) ∙ before

filter_by : (b : Bool) (kept more js : List Json) (j : Json) → more ≡ (if b then kept ++ j ∷ [] else kept)
    → more ++ js ≡ kept ++ (cond b (j ∷ js) js)
filter_by true kept more js j m = rw m (append_assoc kept (j ∷ []) js)
filter_by false kept more js j m = rw m refl

-- one more item, which is kept where it passes
pub filter_more : (p : Json → Bool) (kept more : List Json) (vs : List Value) (i : ℕ) (v : Value) (all : List Json)
    → i < length vs → v ≡ get_or vs i v → more ≡ (if p (json v) then kept ++ json v ∷ [] else kept)
    → kept ++ filter p (map json (drop i vs)) ≡ all → more ++ filter p (map json (drop (i + 1) vs)) ≡ all
filter_more p kept more vs i v all h e m before =
    filter_by (p (json v)) kept more (filter p (map json (drop (i + 1) vs))) (json v) m
    ∙ ap (λ js. kept ++ filter p js) (sym (next_in vs i v h e)) ∙ before

pub filter_ends : (p : Json → Bool) (kept : List Json) (vs : List Value) (i : ℕ) (all : List Json) → length vs ≤ i
    → kept ++ filter p (map json (drop i vs)) ≡ all → kept ≡ all
filter_ends p kept vs i all h before = sym (append-nil kept) ∙ sym (ap (λ js. kept ++ filter p js) (none_left vs i h))
    ∙ before

-- ---- items of some arrays

twice_by : (b : Bool) (p q : Json → Bool) (j : Json) (js : List Json) → p j ≡ b
    → filter (λ k. p k && q k) js ≡ filter q (filter p js)
    → filter (λ k. p k && q k) (j ∷ js) ≡ filter q (filter p (j ∷ js))
twice_by true p q j js e h = rw (e, h) refl
twice_by false p q j js e h = rw e h

filter_twice : (p q : Json → Bool) (js : List Json) → filter (λ j. p j && q j) js ≡ filter q (filter p js)
filter_twice p q [] = refl
filter_twice p q (j ∷ js) = twice_by (p j) p q j js refl (filter_twice p q js)

filter_none : (js : List Json) → filter (λ j. true) js ≡ js
filter_none [] = refl
filter_none (j ∷ js) = ap (λ ks. j ∷ ks) (filter_none js)

filter_nothing : (js : List Json) → [] ≡ filter (λ j. false) js
filter_nothing [] = refl
filter_nothing (j ∷ js) = filter_nothing js

-- no value is an item of what is no array
pub none_among : (v : Value) (js : List Json) → ((ks : List Json) → v ≡ Array ks → ⊥)
    → [] ≡ filter (λ j. is_item_of j (json v)) js
none_among Null js h = filter_nothing js
none_among (Truth b) js h = filter_nothing js
none_among (Int z) js h = filter_nothing js
none_among (Text s) js h = filter_nothing js
none_among (Array ks) js h = absurd (h ks refl)
none_among (Object ms) js h = filter_nothing js

-- the items of one more array are kept
pub common_more : (js kept : List Json) (vs : List Value) (i : ℕ) (v : Value) (all : List Json) → i < length vs
    → v ≡ get_or vs i v → kept ≡ filter (λ j. is_item_of j (json v)) js
    → filter (λ j. list_all (is_item_of j) (map json (drop i vs))) js ≡ all
    → filter (λ j. list_all (is_item_of j) (map json (drop (i + 1) vs))) kept ≡ all
common_more js kept vs i v all h e is_kept before =
    let ks = map json (drop (i + 1) vs) in
    rw is_kept (sym (filter_twice (λ j. is_item_of j (json v)) (λ j. list_all (is_item_of j) ks) js)
    ∙ ap (λ ls. filter (λ j. list_all (is_item_of j) ls) js) (sym (next_in vs i v h e)) ∙ before)

pub common_ends : (js : List Json) (vs : List Value) (i : ℕ) (all : List Json) → length vs ≤ i
    → filter (λ j. list_all (is_item_of j) (map json (drop i vs))) js ≡ all → js ≡ all
common_ends js vs i all h before = sym (filter_none js)
    ∙ sym (ap (λ ls. filter (λ j. list_all (is_item_of j) ls) js) (none_left vs i h)) ∙ before

-- the values so far, and one more
pub front_more : (vs : List Value) (i : ℕ) (v : Value) → i < length vs → v ≡ get_or vs i v
    → map json (take i vs) ++ json v ∷ [] ≡ map json (take (i + 1) vs)
front_more vs i v h e = sym (rw add-one (map-take-more json vs i v h e))

pub distinct_ends : (kept : List Json) (vs : List Value) (i : ℕ) (all : List Json) → length vs ≤ i
    → kept ++ distinct (map json (take i vs)) (map json (drop i vs)) ≡ all → kept ≡ all
distinct_ends kept vs i all h before = sym (append-nil kept)
    ∙ sym (ap (λ r. kept ++ r) (ap (distinct (map json (take i vs))) (none_left vs i h) ∙ distinct-nil _)) ∙ before

-- ---- places

first-cons : (i : ℕ) (j k : Json) (ks : List Json)
    → first_from i j (k ∷ ks) ≡ or_found (here (is_same j k) i) (first_from (i + 1) j ks)
unfolding first_from
first-cons i j k ks = refl

first-nil : (i : ℕ) (j : Json) → first_from i j [] ≡ None
unfolding first_from
first-nil i j = refl

pub first_found : (i : ℕ) (j : Json) (vs : List Value) (v : Value) (all : Option ℕ) → i < length vs
    → v ≡ get_or vs i v → is_same j (json v) ≡ true → first_from i j (map json (drop i vs)) ≡ all → Some i ≡ all
first_found i j vs v all h e t before =
    let step : first_from i j (map json (drop i vs)) ≡ Some i = ap (first_from i j) (next_in vs i v h e)
    ∙ first-cons i j (json v) (map json (drop (i + 1) vs)) ∙ rw t refl in
    sym step ∙ before

pub first_more : (i : ℕ) (j : Json) (vs : List Value) (v : Value) (all : Option ℕ) → i < length vs → v ≡ get_or vs i v
    → is_same j (json v) ≡ false → first_from i j (map json (drop i vs)) ≡ all
    → first_from (i + 1) j (map json (drop (i + 1) vs)) ≡ all
first_more i j vs v all h e t before =
    let step : first_from i j (map json (drop i vs)) ≡ first_from (i + 1) j (map json (drop (i + 1) vs)) =
    ap (first_from i j) (next_in vs i v h e) ∙ first-cons i j (json v) (map json (drop (i + 1) vs)) ∙ rw t refl in
    sym step ∙ before

pub first_ends : (i : ℕ) (j : Json) (vs : List Value) (all : Option ℕ) → length vs ≤ i
    → first_from i j (map json (drop i vs)) ≡ all → None ≡ all
first_ends i j vs all h before = sym (ap (first_from i j) (none_left vs i h) ∙ first-nil i j) ∙ before

last-cons : (i : ℕ) (j k : Json) (ks : List Json)
    → last_from i j (k ∷ ks) ≡ or_found (last_from (i + 1) j ks) (here (is_same j k) i)
unfolding last_from
last-cons i j k ks = refl

last-nil : (i : ℕ) (j : Json) → last_from i j [] ≡ None
unfolding last_from
last-nil i j = refl

or_or : (a b o : Option ℕ) → or_found (or_found a b) o ≡ or_found a (or_found b o)
or_or None b o = refl
or_or (Some i) b o = refl

pub last_more : (i : ℕ) (j : Json) (vs : List Value) (v : Value) (found next all : Option ℕ) → i < length vs
    → v ≡ get_or vs i v → next ≡ or_found (here (is_same j (json v)) i) found
    → or_found (last_from i j (map json (drop i vs))) found ≡ all
    → or_found (last_from (i + 1) j (map json (drop (i + 1) vs))) next ≡ all
last_more i j vs v found next all h e n before =
    let ks = map json (drop (i + 1) vs) in
    let step : last_from i j (map json (drop i vs)) ≡ or_found (last_from (i + 1) j ks)
    (here (is_same j (json v)) i) = ap (last_from i j) (next_in vs i v h e) ∙ last-cons i j (json v) ks in
    rw n (sym (or_or (last_from (i + 1) j ks) (here (is_same j (json v)) i) found)
    ∙ ap (λ o. or_found o found) (sym step) ∙ before)

pub last_ends : (i : ℕ) (j : Json) (vs : List Value) (found all : Option ℕ) → length vs ≤ i
    → or_found (last_from i j (map json (drop i vs))) found ≡ all → found ≡ all
last_ends i j vs found all h before =
    sym (ap (λ o. or_found o found) (ap (last_from i j) (none_left vs i h) ∙ last-nil i j)) ∙ before
