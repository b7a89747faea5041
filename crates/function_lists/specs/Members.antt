-- The functions on objects (Microsoft Learn: ARM template functions, object).
use Rattle.std.specs.Prelude.{ℕ, ℤ, pos, negsuc, bytes_eq, ◌&&◌, codes, Bool, false, List, [], ◌∷◌, ◌++◌, map}
use Rattle.std.specs.Prelude.{slice_get, Option, Some, None, option_map, option_and_then, if◌then◌else◌}
use Rattle.std.specs.List.{list_any, list_all, filter}
use Rattle.arm_value.specs.Json.{Json, null, int, text, array, object, Pairs, no_pairs, pair, Member, items, members}
use Rattle.arm_value.specs.Json.{pairs, put, put_each}
use Rattle.arm_value.specs.Look.{look_in, is_same_folded}
use Rattle.arm_value.specs.Same.{is_same}
use Rattle.function_numbers.specs.Kinds.{text_of, members_of, of_one}
use Rattle.function_lists.specs.Values.{array_of, object_of, or_null}
use Rattle.function_lists.specs.Items.{union_of_arrays, intersection_of_arrays}
use Rattle.arm_value.specs.Kinds.{is_object}

-- `objectKeys`: the keys, in the order of their bytes
abbrev pub object_keys : List Json → Option Json
object_keys args = of_one (λ j. option_and_then (λ ms. array_of (map (λ m. text m.0) ms)) (members_of j)) args

-- the object that has a member's key as `key` and its value as `value`
abbrev pub key_and_value : Member → Json
key_and_value m = object (pairs (put (codes "value") m.1 (put (codes "key") (text m.0) [])))

-- `items`: an object for each member, in the order of the keys' bytes
abbrev pub object_items : List Json → Option Json
object_items args = of_one (λ j. option_and_then (λ ms. array_of (map key_and_value ms)) (members_of j)) args

-- names and values in turn
unfoldable pub paired : List Json → Option (List Member)
paired [] = Some []
paired (j ∷ []) = None
paired (j ∷ k ∷ js) = option_and_then (λ s. option_map (λ ms. (s, k) ∷ ms) (paired js)) (text_of j)

-- `createObject`
abbrev pub create_object : List Json → Option Json
create_object args = option_and_then object_of (paired args)

-- the value at exactly this key
unfoldable pub value_at : List ℕ → List Member → Option Json
value_at k [] = None
value_at k (m ∷ ms) = if bytes_eq k m.0 then Some m.1 else value_at k ms

-- the members of the object at exactly this key
abbrev pub object_at : List ℕ → List Member → Option (List Member)
object_at k ms = option_and_then members_of (value_at k ms)

-- two objects under one key are united; else it is the second value
abbrev mutual
  pub under : Option (List Member) → Json → Json
  under (Some ms) (object ns) = object (pairs (put_each [] (ms ++ updated ms ns)))
  under _ j = j

  -- the second members, each united with the value that the first have at its key
  pub updated : List Member → Pairs → List Member
  updated ms no_pairs = []
  updated ms (pair k j ns) = (k, under (object_at k ms) j) ∷ updated ms ns

-- the members of both, of which those of the second win
abbrev pub united : List Member → Pairs → List Member
united ms ns = put_each [] (ms ++ updated ms ns)

-- the members united with those of all these objects, one after another
unfoldable pub united_all : List Member → List Json → Option (List Member)
united_all ms [] = Some ms
united_all ms (j ∷ js) = option_and_then (λ ns. united_all (united ms (pairs ns)) js) (members_of j)

-- the union of objects where there are a first one's members, else of arrays
abbrev pub union_by : Option (List Member) → List Json → List Json → Option Json
union_by (Some ms) others args = option_map (λ ns. object (pairs ns)) (united_all ms others)
union_by None others args = union_of_arrays args

abbrev pub union : List Json → Option Json
union [] = None
union (j ∷ js) = union_by (members_of j) js (j ∷ js)

-- whether the object has an equal value at exactly this key
abbrev pub is_member_of : Member → Json → Bool
is_member_of m (object ns) = list_any (λ n. bytes_eq m.0 n.0 && is_same m.1 n.1) (members ns)
is_member_of m _ = false

-- the members that are equal in all these objects
abbrev pub intersection_of_objects : List Member → List Json → Option Json
intersection_of_objects ms others = if list_all is_object others
    then object_of (filter (λ m. list_all (is_member_of m) others) ms) else None

-- the intersection of a value and others: of arrays, or of objects
abbrev pub intersection_with : Json → List Json → Option Json
intersection_with (array js) others = intersection_of_arrays (items js) others
intersection_with (object ms) others = intersection_of_objects (members ms) others
intersection_with _ others = None

abbrev pub intersection : List Json → Option Json
intersection [] = None
intersection (j ∷ js) = intersection_with j js

-- whether a key is equal but for the case of ASCII letters
abbrev pub has_key : List ℕ → List Member → Bool
has_key name ms = list_any (λ m. is_same_folded name m.0) ms

-- the item at a place
abbrev pub element : ℤ → List Json → Option Json
element (pos n) js = slice_get js n
element (negsuc n) js = None

-- what a text or a number finds in null, in an array and in an object: null where the part is missing
abbrev pub part_of_null : Json → Option Json
part_of_null (text name) = Some null
part_of_null (int place) = Some null
part_of_null _ = None

abbrev pub part_of_items : List Json → Json → Option Json
part_of_items js (text name) = Some null
part_of_items js (int place) = Some (or_null (element place js))
part_of_items js _ = None

abbrev pub part_of_members : List Member → Json → Option Json
part_of_members ms (text name) = Some (or_null (look_in name (pairs ms)))
part_of_members ms (int place) = Some null
part_of_members ms _ = None

-- a part of a value; no other value has parts
abbrev pub part_of : Json → Json → Option Json
part_of null part = part_of_null part
part_of (array js) part = part_of_items (items js) part
part_of (object ms) part = part_of_members (members ms) part
part_of _ part = None

-- the part of the part, and so on
unfoldable pub part_along : Json → List Json → Option Json
part_along j [] = Some j
part_along j (k ∷ ks) = option_and_then (λ part. part_along part ks) (part_of j k)

-- the part along a path that is not empty
abbrev pub tried : Json → List Json → Option Json
tried j [] = None
tried j (k ∷ ks) = part_along j (k ∷ ks)

-- `tryGet`
abbrev pub try_get : List Json → Option Json
try_get [] = None
try_get (j ∷ ks) = tried j ks
