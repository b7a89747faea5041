-- Names and values in turn, and parts along a path.
use Rattle.std.proofs.Common.{◌≡◌, ◌<◌, ◌≤◌, ◌+◌, ◌-◌, ℕ, suc, List, [], ◌∷◌, ◌++◌, length, get_or, take, drop, map}
use Rattle.std.proofs.Common.{Option, Some, None, option_map, option_and_then, refl, ap, ap₂, sym, ◌∙◌, append_assoc}
use Rattle.std.proofs.Common.{append-nil, arith, codes, true, false}
use Rattle.std.specs.Prelude.{◌==◌}
use Rattle.std.proofs.lemmas.Bool.Decides.{nat_tests}
use Rattle.std.specs.Str.{chars}
use Rattle.std.proofs.lemmas.List.{take_all}
use Rattle.arm_value.specs.Json.{Json, Member}
use Rattle.arm_value.specs.View.{json}
use Rattle.arm_value.specs.declared.value.Value.{Value}
use Rattle.function_numbers.specs.Kinds.{text_of}
use Rattle.function_numbers.proofs.RowLemmas.{next_in, none_left}
use Rattle.function_lists.specs.Members.{paired, part_of, part_along}

pub chars_key : chars (codes "key") ≡ codes "key"
unfolding chars
chars_key = refl

pub chars_value : chars (codes "value") ≡ codes "value"
unfolding chars
chars_value = refl

-- the first of some values, and those after it
pub first_of : (vs : List Value) (v : Value) → 1 ≤ length vs → v ≡ get_or vs 0 v
    → map json vs ≡ json v ∷ map json (take (length vs - 1) (drop 1 vs))
first_of [] v h e = absurd (omega arith)
first_of (w ∷ vs) v h e =
    let n : length vs ≤ length (w ∷ vs) - 1 = omega arith in
    ap₂ (λ (x : Value) us. json x ∷ map json us) (sym e) (sym (take_all (length (w ∷ vs) - 1) vs n))

-- the first two, and those after them
pub first_two_of : (vs : List Value) (v w : Value) → 2 ≤ length vs → v ≡ get_or vs 0 v → w ≡ get_or vs 1 w
    → map json vs ≡ json v ∷ json w ∷ map json (take (length vs - 2) (drop 2 vs))
first_two_of [] v w h e f = absurd (omega arith)
first_two_of (x ∷ []) v w h e f = absurd (omega arith)
first_two_of (x ∷ y ∷ vs) v w h e f =
    let n : length vs ≤ length (x ∷ y ∷ vs) - 2 = omega arith in
    (λ i. json (sym e i) ∷ json (sym f i) ∷ map json (sym (take_all (length (x ∷ y ∷ vs) - 2) vs n) i))

-- ---- names and values in turn

paired-two : (j k : Json) (js : List Json)
    → paired (j ∷ k ∷ js) ≡ option_and_then (λ s. option_map (λ ms. (s, k) ∷ ms) (paired js)) (text_of j)
unfolding paired
paired-two j k js = refl

pairs_on : (ms : List Member) (m : Member) (o : Option (List Member))
    → option_map (λ ns. ms ++ ns) (option_map (λ ns. m ∷ ns) o) ≡ option_map (λ ns. (ms ++ m ∷ []) ++ ns) o
pairs_on ms m None = refl
pairs_on ms m (Some ns) = ap Some (sym (append_assoc ms (m ∷ []) ns))

paired_by : (o : Option (List ℕ)) (k : Json) (m : Member) (p : Option (List Member))
    → Some m ≡ option_map (λ s. (s, k)) o
    → option_and_then (λ s. option_map (λ ms. (s, k) ∷ ms) p) o ≡ option_map (λ ns. m ∷ ns) p
paired_by None k m p e = absurd (cc)
paired_by (Some s) k m p e = let same : m ≡ (s, k) = cc in ap (λ (n : Member). option_map (λ ns. n ∷ ns) p) (sym same)

not_paired_by : (o : Option (List ℕ)) (k : Json) (p : Option (List Member))
    → ◌≡◌ {A = Option Member} None (option_map (λ s. (s, k)) o)
    → option_and_then (λ s. option_map (λ ms. (s, k) ∷ ms) p) o ≡ None
not_paired_by None k p e = refl
not_paired_by (Some s) k p e = absurd (cc)

pub paired_more : (ms more : List Member) (m : Member) (vs : List Value) (v w : Value) (all : Option (List Member))
    → 2 ≤ length vs → v ≡ get_or vs 0 v → w ≡ get_or vs 1 w
    → Some m ≡ option_map (λ s. (s, json w)) (text_of (json v)) → more ≡ ms ++ m ∷ []
    → option_map (λ ns. ms ++ ns) (paired (map json vs)) ≡ all
    → option_map (λ ns. more ++ ns) (paired (map json (take (length vs - 2) (drop 2 vs)))) ≡ all
paired_more ms more m vs v w all h e f n grown before =
    let js = map json (take (length vs - 2) (drop 2 vs)) in
    let step : paired (map json vs) ≡ option_map (λ ns. m ∷ ns) (paired js) = ap paired (first_two_of vs v w h e f)
    ∙ paired-two (json v) (json w) js ∙ paired_by (text_of (json v)) (json w) m (paired js) n in
    rw grown (sym (pairs_on ms m (paired js)) ∙ ap (option_map (λ ns. ms ++ ns)) (sym step) ∙ before)

pub paired_fails : (ms : List Member) (vs : List Value) (v w : Value) (all : Option (List Member)) → 2 ≤ length vs
    → v ≡ get_or vs 0 v → w ≡ get_or vs 1 w
    → ◌≡◌ {A = Option Member} None (option_map (λ s. (s, json w)) (text_of (json v)))
    → option_map (λ ns. ms ++ ns) (paired (map json vs)) ≡ all → None ≡ all
paired_fails ms vs v w all h e f n before =
    let js = map json (take (length vs - 2) (drop 2 vs)) in
    let step : paired (map json vs) ≡ None = ap paired (first_two_of vs v w h e f) ∙ paired-two (json v) (json w) js
    ∙ not_paired_by (text_of (json v)) (json w) (paired js) n in
    sym (ap (option_map (λ ns. ms ++ ns)) step) ∙ before

pub paired_ends : (ms : List Member) (vs : List Value) (all : Option (List Member)) → (length vs == 0) ≡ true
    → option_map (λ ns. ms ++ ns) (paired (map json vs)) ≡ all → Some ms ≡ all
unfolding paired
paired_ends ms [] all h before = ap Some (sym (append-nil ms)) ∙ before
paired_ends ms (v ∷ vs) all h before = let n : suc (length vs) ≡ 0 = grind (arith, nat_tests) in absurd (omega arith)

pub paired_odd : (ms : List Member) (vs : List Value) (all : Option (List Member)) → length vs < 2
    → (length vs == 0) ≡ false → option_map (λ ns. ms ++ ns) (paired (map json vs)) ≡ all → None ≡ all
unfolding paired
paired_odd ms [] all h e before = absurd (cc)
paired_odd ms (v ∷ []) all h e before = before
paired_odd ms (v ∷ w ∷ vs) all h e before = absurd (omega arith)

-- ---- parts along a path

along-cons : (j k : Json) (ks : List Json)
    → part_along j (k ∷ ks) ≡ option_and_then (λ part. part_along part ks) (part_of j k)
unfolding part_along
along-cons j k ks = refl

along-nil : (j : Json) → part_along j [] ≡ Some j
unfolding part_along
along-nil j = refl

pub along_more : (j next : Json) (vs : List Value) (i : ℕ) (v : Value) (all : Option Json) → i < length vs
    → v ≡ get_or vs i v → Some next ≡ part_of j (json v) → part_along j (map json (drop i vs)) ≡ all
    → part_along next (map json (drop (i + 1) vs)) ≡ all
along_more j next vs i v all h e n before =
    let ks = map json (drop (i + 1) vs) in
    ap (option_and_then (λ part. part_along part ks)) n
    ∙ sym (ap (part_along j) (next_in vs i v h e) ∙ along-cons j (json v) ks) ∙ before

pub along_fails : (j : Json) (vs : List Value) (i : ℕ) (v : Value) (all : Option Json) → i < length vs
    → v ≡ get_or vs i v → None ≡ part_of j (json v) → part_along j (map json (drop i vs)) ≡ all → None ≡ all
along_fails j vs i v all h e n before =
    let ks = map json (drop (i + 1) vs) in
    ap (option_and_then (λ part. part_along part ks)) n
    ∙ sym (ap (part_along j) (next_in vs i v h e) ∙ along-cons j (json v) ks) ∙ before

pub along_ends : (j : Json) (vs : List Value) (i : ℕ) (all : Option Json) → length vs ≤ i
    → part_along j (map json (drop i vs)) ≡ all → Some j ≡ all
along_ends j vs i all h before = sym (ap (part_along j) (none_left vs i h) ∙ along-nil j) ∙ before
