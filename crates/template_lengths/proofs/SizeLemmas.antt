-- The text of an array or an object has in it the texts of its parts.
use Rattle.std.proofs.Common.{◌≤◌, ◌+◌, ℕ, Bool, true, false, not, List, [], ◌∷◌, ◌++◌, length}
use Rattle.std.proofs.Common.{length-append, arith}
use Rattle.serde_json.specs.Written.{compact_text, items_text, members_text, comma_if}
use Rattle.json.specs.Print.{quoted}
use Rattle.std.specs.Prelude.{encode_utf8_all}
use Rattle.arm_value.specs.Json.{Json, array, object, Member, row, pairs}
use Rattle.arm_value.specs.Reading.{data_of, row_data, pairs_data}
use Rattle.template_lengths.specs.Lengths.{value_bytes}

-- ---- lists

inside : (a q c r : List ℕ) → length c + length r ≤ length (a ++ (q ++ 58 ∷ (c ++ r)))
inside a q c r =
    let x = length-append a (q ++ 58 ∷ (c ++ r)) in
    let y = length-append q (58 ∷ (c ++ r)) in
    let z = length-append c r in
    omega (arith, x, y, z)

beside : (a c r : List ℕ) → length c + length r ≤ length (a ++ (c ++ r))
beside a c r =
    let x = length-append a (c ++ r) in
    let z = length-append c r in
    omega (arith, x, z)

-- ---- values of an array

abbrev pub sum_items : List Json → ℕ
sum_items [] = 0
sum_items (j ∷ js) = value_bytes j + sum_items js

items_inside : (later : Bool) (js : List Json) → sum_items js ≤ length (items_text later (row_data (row js)))
items_inside later [] = omega arith
items_inside later (j ∷ js) =
    let b = beside (comma_if later) (compact_text (data_of j)) (items_text true (row_data (row js))) in
    let h = items_inside true js in
    omega (arith, b, h)

pub array_holds : (js : List Json) → sum_items js ≤ value_bytes (array (row js))
array_holds js = let h = items_inside false js in omega (arith, h)

-- ---- members whose names pass a test

abbrev pub counted : Bool → ℕ → ℕ
counted true n = n
counted false n = 0

abbrev pub sum_of : (List ℕ → Bool) → List Member → ℕ
sum_of p [] = 0
sum_of p (m ∷ ms) = counted (p m.0) (value_bytes m.1) + sum_of p ms

abbrev pub others : (List ℕ → Bool) → List ℕ → Bool
others p k = not (p k)

at_most : (b : Bool) (n : ℕ) → counted b n + counted (not b) n ≤ n
at_most true n = omega arith
at_most false n = omega arith

members_inside : (p : List ℕ → Bool) (later : Bool) (ms : List Member)
    → sum_of p ms + sum_of (others p) ms ≤ length (members_text later (pairs_data (pairs ms)))
members_inside p later [] = omega arith
members_inside p later (m ∷ ms) =
    let b = inside (comma_if later) (quoted (encode_utf8_all m.0)) (compact_text (data_of m.1))
    (members_text true (pairs_data (pairs ms))) in
    let c = at_most (p m.0) (value_bytes m.1) in
    let h = members_inside p true ms in
    omega (arith, b, c, h)

pub object_holds : (p : List ℕ → Bool) (ms : List Member)
    → sum_of p ms + sum_of (others p) ms ≤ value_bytes (object (pairs ms))
object_holds p ms = let h = members_inside p false ms in omega (arith, h)
