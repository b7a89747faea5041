-- Arrays and objects that nest at most 120.
use Rattle.std.proofs.Common.{◌≡◌, ◌<◌, ◌≤◌, ℕ, suc, Bool, true, false, List, [], ◌∷◌, ◌++◌, Some, None, refl, ap}
use Rattle.std.proofs.Common.{sym, ◌∙◌, arith}
use Rattle.std.specs.Prelude.{nat_le, if◌then◌else◌}
use Rattle.std.proofs.lemmas.Bool.Decides.{nat_tests}
use Rattle.arm_value.proofs.SameLemmas.{items-row}
use Rattle.arm_value.specs.Json.{Json, array, object, row, items, pairs, nesting, items_nesting, members_nesting}
use Rattle.arm_value.specs.Json.{Member, put_each}
use Rattle.function_lists.specs.Values.{array_of, object_of, capped}

within_120 : (n : ℕ) → n ≤ 119 → nat_le (suc n) 120 ≡ true
within_120 n h = grind (arith, nat_tests)

above_120 : (n : ℕ) → 119 < n → nat_le (suc n) 120 ≡ false
above_120 n h = grind (arith, nat_tests)

pub is_array_of : (js : List Json) → items_nesting js ≤ 119 → Some (array (row js)) ≡ array_of js
unfolding array_of
is_array_of js h = rw (within_120 (items_nesting js) h) refl

pub no_array_of : (js : List Json) → 119 < items_nesting js → None ≡ array_of js
unfolding array_of
no_array_of js h = rw (above_120 (items_nesting js) h) refl

pub is_capped : (ms : List Member) → members_nesting ms ≤ 119 → Some (object (pairs ms)) ≡ capped (object (pairs ms))
is_capped ms h = rw (within_120 (members_nesting ms) h) refl

pub is_not_capped : (ms : List Member) → 119 < members_nesting ms → None ≡ capped (object (pairs ms))
is_not_capped ms h = rw (above_120 (members_nesting ms) h) refl

pub is_object_of : (ms : List Member) → capped (object (pairs (put_each [] ms))) ≡ object_of ms
unfolding object_of
is_object_of ms = refl

deep_among : (ms ns : List Member) (m : Member) → nesting m.1 ≤ members_nesting (ms ++ m ∷ ns)
deep_among [] ns m = omega arith
deep_among (n ∷ ms) ns m = omega (arith, deep_among ms ns m)

pub nests_among : (all ms ns : List Member) (m : Member) → members_nesting all ≤ 119 → all ≡ ms ++ m ∷ ns
    → nesting m.1 ≤ 119
nests_among all ms ns m h e = omega (arith, h, deep_among ms ns m, ap members_nesting e)

array_is_by : (b : Bool) (js ks : List Json) → (if b then Some (array (row js)) else None) ≡ Some (array (row ks))
    → ks ≡ js
array_is_by true js ks e = let rows : row ks ≡ row js = cc in sym (items-row ks) ∙ ap items rows ∙ items-row js
array_is_by false js ks e = absurd (cc)

-- an array is of the items that it was made of
pub array_of_is : (js ks : List Json) → array_of js ≡ Some (array (row ks)) → ks ≡ js
unfolding array_of
array_of_is js ks e = array_is_by (nat_le (nesting (array (row js))) 120) js ks e
