-- Lists of values whose numbers are whole, step by step.
use Rattle.std.proofs.Common.{◌≡◌, ◌<◌, ◌≤◌, ◌+◌, ◌^◌, ℕ, suc, ℤ, pos, negsuc, List, ◌∷◌, length, get_or, drop, map}
use Rattle.std.proofs.Common.{None, refl, ap, sym, ◌∙◌, true, arith, w64}
use Rattle.std.specs.Prelude.{FitsSigned, nat_lt}
use Rattle.std.proofs.lemmas.Bool.Decides.{nat_tests}
use Rattle.std.proofs.lemmas.List.{drop_more, drop_all}
use Rattle.serde_json.specs.Data.{number}
use Rattle.serde_json.specs.Find.{of_integer}
use Rattle.arm_value.specs.declared.value.Value.{Value}
use Rattle.arm_value.specs.declared.value.Field.{Field}
use Rattle.arm_value.specs.Json.{row, pairs}
use Rattle.arm_value.specs.View.{json, member}
use Rattle.arm_value.specs.Reading.{data_of, row_data, pairs_data, not_whole, items_not_whole, members_not_whole}
use Rattle.function_texts.proofs.RowLemmas.{next_in, none_left}

below_top : (n : ℕ) → n < 2 ^ 63 → nat_lt n (2 ^ 63) ≡ true
below_top n h = grind (arith, nat_tests)

pub number_whole : (z : ℤ) → FitsSigned w64 z → not_whole (number (of_integer z)) ≡ None
number_whole (pos n) f = let below : nat_lt n (2 ^ 63) ≡ true = below_top n (omega arith) in rw below refl
number_whole (negsuc n) f = refl

pub items_more : (vs : List Value) (k : ℕ) (v : Value) → k < length vs → v ≡ get_or vs k v
    → not_whole (data_of (json v)) ≡ None
    → ((i : ℕ) → items_not_whole i (row_data (row (map json (drop (k + 1) vs)))) ≡ None)
    → (i : ℕ) → items_not_whole i (row_data (row (map json (drop k vs)))) ≡ None
items_more vs k v l e h rest i = ap (λ js. items_not_whole i (row_data (row js))) (next_in vs k v l e)
    ∙ rw h (rest (suc i))

pub items_end : (vs : List Value) (k : ℕ) → length vs ≤ k → (i : ℕ)
    → items_not_whole i (row_data (row (map json (drop k vs)))) ≡ None
items_end vs k l i = ap (λ js. items_not_whole i (row_data (row js))) (none_left vs k l)

next_member : (fs : List Field) (k : ℕ) (f : Field) → k < length fs → f ≡ get_or fs k f
    → map member (drop k fs) ≡ member f ∷ map member (drop (k + 1) fs)
next_member fs k f l e = ap (map member) (drop_more fs k f l ∙ ap (λ y. y ∷ drop (k + 1) fs) (sym e))

pub members_more : (fs : List Field) (k : ℕ) (f : Field) → k < length fs → f ≡ get_or fs k f
    → not_whole (data_of (json f.value)) ≡ None
    → members_not_whole (pairs_data (pairs (map member (drop (k + 1) fs)))) ≡ None
    → members_not_whole (pairs_data (pairs (map member (drop k fs)))) ≡ None
members_more fs k f l e h rest = ap (λ ms. members_not_whole (pairs_data (pairs ms))) (next_member fs k f l e)
    ∙ rw h rest

pub members_end : (fs : List Field) (k : ℕ) → length fs ≤ k
    → members_not_whole (pairs_data (pairs (map member (drop k fs)))) ≡ None
members_end fs k l = ap (λ ms. members_not_whole (pairs_data (pairs ms))) (ap (map member) (drop_all k fs l))
