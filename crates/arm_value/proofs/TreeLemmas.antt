-- Lists as the parts of arrays and objects, whole numbers as numbers of data, and how deep an object nests with one
-- member more.
use Rattle.std.proofs.Common.{◌≡◌, ◌≤◌, ℕ, ℤ, pos, negsuc, List, [], ◌∷◌, Ordering, Less, Equal, Greater, refl, ap}
use Rattle.std.proofs.Common.{arith}
use Rattle.std.specs.Ordering.{match_ordering}
use Rattle.serde_json.specs.Data as d
use Rattle.serde_json.specs.Find.{of_integer}
use Rattle.arm_value.specs.Json.{Json, Row, no_items, item, row, items, Pairs, no_pairs, pair, Member, pairs, members}
use Rattle.arm_value.specs.Json.{nesting, members_nesting}
use Rattle.arm_value.specs.Json.{key_cmp, put}

-- the whole number of a number that has no fraction
abbrev pub integer_in : d.Num → ℤ
integer_in (d.unsigned n) = pos n
integer_in (d.negative z) = z
integer_in (d.float x) = pos 0

pub integer_back : (z : ℤ) → integer_in (of_integer z) ≡ z
integer_back (pos n) = refl
integer_back (negsuc n) = refl

-- items go to a row and back
pub row-items : (js : Row) → row (items js) ≡ js
row-items no_items = refl
row-items (item j js) = ap (item j) (row-items js)

-- members go to an object and back
pub members-pairs : (ms : List Member) → members (pairs ms) ≡ ms
members-pairs [] = refl
members-pairs (m ∷ ms) = ap (λ r. m ∷ r) (members-pairs ms)

pub pairs-members : (ms : Pairs) → pairs (members ms) ≡ ms
pairs-members no_pairs = refl
pairs-members (pair k j ms) = ap (pair k j) (pairs-members ms)

put_nests_by : (o : Ordering) (n : ℕ) (k : List ℕ) (j : Json) (m : Member) (ms : List Member) → nesting j ≤ n
    → members_nesting (m ∷ ms) ≤ n → members_nesting (put k j ms) ≤ n
    → members_nesting (match_ordering o ((k, j) ∷ m ∷ ms) ((k, j) ∷ ms) (m ∷ put k j ms)) ≤ n
put_nests_by Less n k j m ms p h r = omega arith
put_nests_by Equal n k j m ms p h r = omega arith
put_nests_by Greater n k j m ms p h r = omega arith

-- members within a nesting, and one more that is within it, are within it
pub put_nests : (n : ℕ) (k : List ℕ) (j : Json) (ms : List Member) → nesting j ≤ n → members_nesting ms ≤ n
    → members_nesting (put k j ms) ≤ n
put_nests n k j [] p h = omega arith
put_nests n k j (m ∷ ms) p h = put_nests_by (key_cmp k m.0) n k j m ms p h (put_nests n k j ms p (omega arith))
