-- What a value is: a tree, whose objects have each key once, in the order of the keys' bytes.
use Rattle.std.specs.Prelude.{ℕ, suc, max, ◌≤◌, ℤ, List, [], ◌∷◌, Bool, encode_utf8_all, codes}
use Rattle.std.specs.declared.cmp.Ordering.{Ordering}
use Rattle.std.specs.Ordering.{nat_cmp, match_ordering}
use Rattle.std.specs.Cmp.Lexicographic.{slice_cmp}
use Rattle.std.specs.List.Sorted.{IsStrictlySortedBy}

mutual
  pub data Json : Type 0 where
    null : Json
    bool : Bool → Json
    int : ℤ → Json
    text : List ℕ → Json
    array : Row → Json
    object : Pairs → Json

  pub data Row : Type 0 where
    no_items : Row
    item : Json → Row → Row

  pub data Pairs : Type 0 where
    no_pairs : Pairs
    pair : List ℕ → Json → Pairs → Pairs

-- a member of an object: its key and its value
abbrev pub Member : Type 0
Member = List ℕ × Json

abbrev pub row : List Json → Row
row [] = no_items
row (j ∷ js) = item j (row js)

abbrev pub pairs : List Member → Pairs
pairs [] = no_pairs
pairs (m ∷ ms) = pair m.0 m.1 (pairs ms)

abbrev pub items : Row → List Json
items no_items = []
items (item j js) = j ∷ items js

abbrev pub members : Pairs → List Member
members no_pairs = []
members (pair k j ms) = (k, j) ∷ members ms

-- 0 for a scalar, and one more than the deepest part for an array or an object
abbrev mutual
  pub nesting : Json → ℕ
  nesting null = 0
  nesting (bool b) = 0
  nesting (int z) = 0
  nesting (text s) = 0
  nesting (array js) = suc (row_nesting js)
  nesting (object ms) = suc (pairs_nesting ms)

  pub row_nesting : Row → ℕ
  row_nesting no_items = 0
  row_nesting (item j js) = max (nesting j) (row_nesting js)

  pub pairs_nesting : Pairs → ℕ
  pairs_nesting no_pairs = 0
  pairs_nesting (pair k j ms) = max (nesting j) (pairs_nesting ms)

-- the nesting of the deepest of these
abbrev pub items_nesting : List Json → ℕ
items_nesting js = row_nesting (row js)

abbrev pub members_nesting : List Member → ℕ
members_nesting ms = pairs_nesting (pairs ms)

-- the order of keys: that of their bytes
abbrev pub key_cmp : List ℕ → List ℕ → Ordering
key_cmp k l = slice_cmp nat_cmp (encode_utf8_all k) (encode_utf8_all l)

abbrev pub pair_keys : Pairs → List (List ℕ)
pair_keys no_pairs = []
pair_keys (pair k j ms) = k ∷ pair_keys ms

abbrev pub keys : List Member → List (List ℕ)
keys ms = pair_keys (pairs ms)

-- each key is below those after it
abbrev pub IsInOrder : List Member → Type 0
IsInOrder ms = IsStrictlySortedBy key_cmp (keys ms)

-- every object in it is in order
abbrev mutual
  pub IsOrderly : Json → Type 0
  IsOrderly null = Unit {0}
  IsOrderly (bool b) = Unit {0}
  IsOrderly (int z) = Unit {0}
  IsOrderly (text s) = Unit {0}
  IsOrderly (array js) = RowIsOrderly js
  IsOrderly (object ms) = IsStrictlySortedBy key_cmp (pair_keys ms) × PairsAreOrderly ms

  pub RowIsOrderly : Row → Type 0
  RowIsOrderly no_items = Unit {0}
  RowIsOrderly (item j js) = IsOrderly j × RowIsOrderly js

  pub PairsAreOrderly : Pairs → Type 0
  PairsAreOrderly no_pairs = Unit {0}
  PairsAreOrderly (pair k j ms) = IsOrderly j × PairsAreOrderly ms

-- what holds of every `Value`
abbrev pub IsValue : Json → Type 0
IsValue j = IsOrderly j × (nesting j ≤ 120)

-- what holds of the items of every array, and of the members of every object
abbrev pub AreItems : List Json → Type 0
AreItems js = RowIsOrderly (row js) × (items_nesting js ≤ 119)

abbrev pub AreMembers : List Member → Type 0
AreMembers ms = IsInOrder ms × PairsAreOrderly (pairs ms) × (members_nesting ms ≤ 119)

-- the members, with j at k
abbrev pub put : List ℕ → Json → List Member → List Member
put k j [] = (k, j) ∷ []
put k j (m ∷ ms) = match_ordering (key_cmp k m.0) ((k, j) ∷ m ∷ ms) ((k, j) ∷ ms) (m ∷ put k j ms)

-- the members, with each of these put among them in turn, so that the later of two of one key wins
abbrev pub put_each : List Member → List Member → List Member
put_each ms [] = ms
put_each ms (n ∷ ns) = put_each (put n.0 n.1 ms) ns

-- the word for what kind of value it is
abbrev pub type_name : Json → List ℕ
type_name null = codes "null"
type_name (bool b) = codes "bool"
type_name (int z) = codes "int"
type_name (text s) = codes "string"
type_name (array js) = codes "array"
type_name (object ms) = codes "object"
