-- Numbers of at most 64 bits, the best of numbers, and numbers in a row.
use Rattle.std.proofs.Common.{◌≡◌, ℕ, suc, ◌+◌, ◌-◌, ◌<◌, ◌≤◌, ℤ, pos, negsuc, ◌+ℤ◌, ◌≤ℤ◌, true, false, Option, Some}
use Rattle.std.proofs.Common.{None, option_map, option_and_then, List, [], ◌∷◌, ◌++◌, length, get_or, drop, take, map}
use Rattle.std.proofs.Common.{refl, ap, sym, ◌∙◌, arith, w64, append_assoc, append-nil}
use Rattle.std.specs.Option.{SomeIff}
use Rattle.std.specs.Prelude.{FitsSigned}
use Rattle.std.specs.List.{fold}
use Rattle.std.proofs.lemmas.Bool.Decides.{nat_tests}
use Rattle.std.proofs.lemmas.Int.{ints}
use Rattle.arm_value.specs.Json.{Json, int}
use Rattle.arm_value.specs.View.{json}
use Rattle.arm_value.specs.declared.value.Value.{Value}
use Rattle.function_numbers.specs.Kinds.{number_of, numbers_in}
use Rattle.function_numbers.specs.Numbers.{has_64_bits, within, best, counted, is_range}
use Rattle.function_numbers.proofs.RowLemmas.{next_in, none_left, after_first}

fits : (z : ℤ) → FitsSigned w64 z → has_64_bits z ≡ true
fits (pos n) h = grind (arith, nat_tests)
fits (negsuc n) h = grind (arith, nat_tests)

beyond : (z : ℤ) → (FitsSigned w64 z → ⊥) → has_64_bits z ≡ false
beyond (pos n) h = grind (arith, nat_tests)
beyond (negsuc n) h = grind (arith, nat_tests)

-- what is there exactly where a number fits is what the number is within 64 bits
pub within_is : (o : Option ℤ) (z : ℤ) → SomeIff o (FitsSigned w64 z) z → o ≡ within z
within_is None z h = rw (beyond z h) refl
within_is (Some x) z h = rw (fits z h.0) (ap Some h.1)

-- ---- the best of numbers

fold_on : (f : ℤ → ℤ → ℤ) (z y : ℤ) (o : Option (List ℤ))
    → option_map (fold f z) (option_map (λ zs. y ∷ zs) o) ≡ option_map (fold f (f z y)) o
fold_on f z y None = refl
fold_on f z y (Some zs) = refl

numbers_on : (j : Json) (js : List Json) (y : ℤ) → number_of j ≡ Some y
    → numbers_in (j ∷ js) ≡ option_map (λ zs. y ∷ zs) (numbers_in js)
unfolding numbers_in
numbers_on j js y e = rw e refl

numbers_off : (j : Json) (js : List Json) → number_of j ≡ None → numbers_in (j ∷ js) ≡ None
unfolding numbers_in
numbers_off j js e = rw e refl

-- the best so far and the next number
pub best_more : (f : ℤ → ℤ → ℤ) (z y b : ℤ) (vs : List Value) (i : ℕ) (v : Value) (all : Option ℤ) → i < length vs
    → v ≡ get_or vs i v → Some y ≡ number_of (json v) → b ≡ f z y
    → option_map (fold f z) (numbers_in (map json (drop i vs))) ≡ all
    → option_map (fold f b) (numbers_in (map json (drop (i + 1) vs))) ≡ all
best_more f z y b vs i v all h e n better before =
    let js = map json (drop (i + 1) vs) in
    rw better (sym (fold_on f z y (numbers_in js))
    ∙ ap (option_map (fold f z)) (sym (numbers_on (json v) js y (sym n))
    ∙ ap numbers_in (sym (next_in vs i v h e))) ∙ before)

-- there is no best where the next is no number
pub best_fails : (f : ℤ → ℤ → ℤ) (z : ℤ) (vs : List Value) (i : ℕ) (v : Value) (all : Option ℤ) → i < length vs
    → v ≡ get_or vs i v → None ≡ number_of (json v)
    → option_map (fold f z) (numbers_in (map json (drop i vs))) ≡ all → None ≡ all
best_fails f z vs i v all h e n before =
    sym (ap (option_map (fold f z)) (ap numbers_in (next_in vs i v h e)
    ∙ numbers_off (json v) (map json (drop (i + 1) vs)) (sym n))) ∙ before

numbers_none : numbers_in [] ≡ Some []
unfolding numbers_in
numbers_none = refl

-- the best of all is the best at the end
pub best_ends : (f : ℤ → ℤ → ℤ) (z : ℤ) (vs : List Value) (i : ℕ) (all : Option ℤ) → length vs ≤ i
    → option_map (fold f z) (numbers_in (map json (drop i vs))) ≡ all → Some z ≡ all
best_ends f z vs i all h before = sym (ap (option_map (fold f z)) (ap numbers_in (none_left vs i h) ∙ numbers_none))
    ∙ before

best_on : (f : ℤ → ℤ → ℤ) (y : ℤ) (o : Option (List ℤ))
    → option_and_then (best f) (option_map (λ zs. y ∷ zs) o) ≡ option_map (fold f y) o
best_on f y None = refl
best_on f y (Some zs) = refl

best_cons : (f : ℤ → ℤ → ℤ) (y : ℤ) (j : Json) (js : List Json) → Some y ≡ number_of j
    → option_map (fold f y) (numbers_in js) ≡ option_and_then (best f) (numbers_in (j ∷ js))
best_cons f y j js n = sym (ap (option_and_then (best f)) (numbers_on j js y (sym n)) ∙ best_on f y (numbers_in js))

pub best_first : (f : ℤ → ℤ → ℤ) (y : ℤ) (vs : List Value) (v : Value) → 1 ≤ length vs → v ≡ get_or vs 0 v
    → Some y ≡ number_of (json v) → option_map (fold f y) (numbers_in (map json (take (length vs - 1) (drop 1 vs))))
    ≡ option_and_then (best f) (numbers_in (map json vs))
best_first f y [] v h e n = absurd (omega arith)
best_first f y (w ∷ vs) v h e n = ap (λ us. option_map (fold f y) (numbers_in (map json us))) (after_first w vs)
    ∙ best_cons f y (json w) (map json vs) (n ∙ ap (λ (x : Value). number_of (json x)) e)

pub no_first : (f : ℤ → ℤ → ℤ) (vs : List Value) (v : Value) → 1 ≤ length vs → v ≡ get_or vs 0 v
    → None ≡ number_of (json v) → None ≡ option_and_then (best f) (numbers_in (map json vs))
no_first f [] v h e n = absurd (omega arith)
no_first f (w ∷ vs) v h e n =
    sym (ap (option_and_then (best f))
    (numbers_off (json w) (map json vs) (sym (n ∙ ap (λ (x : Value). number_of (json x)) e))))

pub no_best : (f : ℤ → ℤ → ℤ) (vs : List Value) → length vs < 1
    → None ≡ option_and_then (best f) (numbers_in (map json vs))
no_best f [] h = sym (ap (option_and_then (best f)) numbers_none)
no_best f (v ∷ vs) h = absurd (omega arith)

-- ---- numbers in a row

counted_suc : (z : ℤ) (n : ℕ) → counted z (suc n) ≡ int z ∷ counted (z +ℤ pos 1) n
unfolding counted
counted_suc z n = refl

counted_zero : (z : ℤ) → counted z 0 ≡ []
unfolding counted
counted_zero z = refl

pub counted_more : (js ks : List Json) (z y : ℤ) (i n : ℕ) (all : List Json) → i < n → y ≡ z +ℤ pos i
    → ks ≡ js ++ int y ∷ [] → js ++ counted (z +ℤ pos i) (n - i) ≡ all
    → ks ++ counted (z +ℤ pos (i + 1)) (n - (i + 1)) ≡ all
counted_more js ks z y i n all h e k before =
    let left : n - i ≡ suc (n - (i + 1)) = omega arith in
    let next : (z +ℤ pos i) +ℤ pos 1 ≡ z +ℤ pos (i + 1) = omega (arith, ints) in
    let step : counted (z +ℤ pos i) (n - i) ≡ int y ∷ counted (z +ℤ pos (i + 1)) (n - (i + 1)) =
    ap (counted (z +ℤ pos i)) left ∙ counted_suc _ _ ∙ (λ t. int (sym e t) ∷ counted (next t) (n - (i + 1))) in
    rw k (append_assoc js (int y ∷ []) _ ∙ ap (λ r. js ++ r) (sym step) ∙ before)

pub counted_ends : (js : List Json) (z : ℤ) (i n : ℕ) (all : List Json) → n ≤ i
    → js ++ counted (z +ℤ pos i) (n - i) ≡ all → js ≡ all
counted_ends js z i n all h before =
    let left : n - i ≡ 0 = omega arith in
    sym (ap (λ r. js ++ r) (ap (counted (z +ℤ pos i)) left ∙ counted_zero _) ∙ append-nil js) ∙ before

pub range_bounds : (z : ℤ) (n : ℕ) → is_range z (pos n) ≡ true → (n ≤ 10000) × ((z +ℤ pos n) ≤ℤ pos 2147483647)
range_bounds z n h = (grind (arith, nat_tests), grind (arith, ints, nat_tests))
