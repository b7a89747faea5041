-- The value of a JSON tree with expressions and loops in it, and what is looked at for it (Microsoft Learn, "Property
-- iteration in ARM templates").
use Rattle.std.specs.Prelude.{ℕ, zero, suc, pos, nat_le, ◌==◌, ◌&&◌, not, bytes_eq, Bool, true, false, List, [], ◌∷◌}
use Rattle.std.specs.Prelude.{◌++◌, length, Option, Some, None, option_and_then, codes, if◌then◌else◌}
use Rattle.std.specs.List.{list_any}
use Rattle.arm_value.specs.Json.{Json, null, bool, int, text, array, object, Row, no_items, item, Pairs, no_pairs}
use Rattle.arm_value.specs.Json.{pair, row, Member, pair_keys}
use Rattle.arm_value.specs.Look.{is_same_folded}
use Rattle.arm_env.specs.Kinds.{text_of}
use Rattle.reading.specs.Reading.{done, pure, none, continued, both}
use Rattle.arm_env.specs.declared.env.Looping.{Looping}
use Rattle.arm_env.specs.Look.{Looking, Surroundings, all}
use Rattle.arm_expr.specs.Brackets.{Meaning, plain, an_expression, meaning as text_meaning, is_copy}
use Rattle.arm_eval.specs.Text.{expression_of}
use Rattle.arm_env.specs.Held.{capped}
use Rattle.arm_env.specs.Object.{object_of}
use Rattle.expression_values.specs.Meaning as meaning

-- a text: plain, or the value of an expression
abbrev pub said_value : Surroundings → List ℕ → Meaning → Looking Json
said_value here t (plain s) = pure (text s)
said_value here t an_expression = continued (done (expression_of t)) (meaning.value here)

-- a member of an object: its name, its tree, and its value
pub record Part : Type 0 where
  pub name : List ℕ
  pub tree : Json
  pub value : Surroundings → Looking Json

-- a loop that gives an object a member: an array of the values of its input, one for each index
pub record Copy : Type 0 where
  pub name : List ℕ
  pub count : Surroundings → Looking Json
  pub input : Surroundings → Looking Json

-- the first member of the name
abbrev pub part_named : List ℕ → List Part → Option Part
part_named name [] = None
part_named name (p ∷ ps) = if is_same_folded name p.name then Some p else part_named name ps

-- the loop of a name, by the other two members
abbrev pub with_name : List ℕ → Option Part → Option Part → Option Copy
with_name name None input = None
with_name name (Some count) None = None
with_name name (Some count) (Some input) = Some (record { name = name; count = count.value; input = input.value })

-- the text that a member is
abbrev pub part_text : Option Part → Option (List ℕ)
part_text None = None
part_text (Some p) = text_of p.tree

-- the loop of these members, whose name is a text
abbrev pub copy_by : List Part → Option Copy
copy_by ps = option_and_then (λ name. with_name name (part_named (codes "count") ps) (part_named (codes "input") ps))
    (part_text (part_named (codes "name") ps))

-- the loop that an object of exactly a name, a count and an input is
abbrev pub copy_of : List Part → Option Copy
copy_of ps = if length ps == 3 then copy_by ps else None

-- a count from 0 to 800
abbrev pub count_of : Json → Option ℕ
count_of (int (pos n)) = if nat_le n 800 then Some n else None
count_of _ = None

-- a loop of a value
abbrev pub looping_of : List ℕ → ℕ → Looping
looping_of name i = record { name = Some name; index = i; main = false }

-- the surroundings inside a loop
abbrev pub within : List ℕ → ℕ → Surroundings → Surroundings
within name i here = record here { loops = looping_of name i ∷ here.loops }

-- the input at n indices from i on
abbrev pub turns : Copy → Surroundings → ℕ → ℕ → List (Looking Json)
turns c here i zero = []
turns c here i (suc n) = c.input (within c.name i here) ∷ turns c here (suc i) n

-- the array of these values
abbrev pub array_of : List (Looking Json) → Looking Json
array_of os = capped (continued (all os) (λ vs. pure (array (row vs))))

-- the member of the loop's name, with n turns
abbrev pub counted : Copy → Surroundings → ℕ → Looking Member
counted c here n = continued (array_of (turns c here 0 n)) (λ v. pure (c.name, v))

-- the count, which is the value of a tree
abbrev pub counting : Looking Json → Looking ℕ
counting o = continued o (λ j. done (count_of j))

-- the member that a loop gives
abbrev pub copied : Surroundings → Option Copy → Looking Member
copied here None = none
copied here (Some c) = continued (counting (c.count here)) (counted c here)

-- the names are not among these
abbrev pub are_new : List (List ℕ) → List (List ℕ) → Bool
are_new names [] = true
are_new names (g ∷ gs) = not (list_any (bytes_eq g) names) && are_new names gs

-- the names differ
abbrev pub differ : List (List ℕ) → Bool
differ [] = true
differ (g ∷ gs) = not (list_any (bytes_eq g) gs) && differ gs

abbrev pub names_of : List Member → List (List ℕ)
names_of [] = []
names_of (m ∷ ms) = m.0 ∷ names_of ms

-- the object of its own members and of those that loops give, whose names it does not have and which differ
abbrev pub joined : List (List ℕ) → List Member → List Member → Option Json
joined names own given = if are_new names (names_of given) && differ (names_of given)
    then Some (object_of (own ++ given)) else None

abbrev pub concat : List (List Member) → List Member
concat [] = []
concat (ms ∷ mss) = ms ++ concat mss

-- an object's own member, with none in the place of `copy`
abbrev pub own_member : List ℕ → Looking Json → Looking (List Member)
own_member k o = if is_copy k then pure [] else continued o (λ v. pure ((k, v) ∷ []))

-- the object of what a member each gives of its own, and of the members that loops give
abbrev pub object_by : List (List ℕ) → List (Looking (List Member)) → Looking (List Member) → Looking Json
object_by names os given = capped (continued (both (all os) given) (λ p. done (joined names (concat p.0) p.1)))

abbrev mutual
  -- the value of a tree
  pub tree_value : Json → Surroundings → Looking Json
  tree_value null here = pure null
  tree_value (bool b) here = pure (bool b)
  tree_value (int z) here = pure (int z)
  tree_value (text t) here = said_value here t (text_meaning t)
  tree_value (array js) here = array_of (row_values js here)
  tree_value (object ms) here = object_by (pair_keys ms) (own_members ms here) (given_members ms here)

  -- the values of items
  pub row_values : Row → Surroundings → List (Looking Json)
  row_values no_items here = []
  row_values (item j js) here = tree_value j here ∷ row_values js here

  -- the members that are an object's own
  pub own_members : Pairs → Surroundings → List (Looking (List Member))
  own_members no_pairs here = []
  own_members (pair k j ms) here = own_member k (tree_value j here) ∷ own_members ms here

  -- the members that `copy` gives
  pub given_members : Pairs → Surroundings → Looking (List Member)
  given_members no_pairs here = pure []
  given_members (pair k j ms) here = if is_copy k then copies j here else given_members ms here

  -- those that each loop of an array gives
  pub copies : Json → Surroundings → Looking (List Member)
  copies null here = none
  copies (bool b) here = none
  copies (int z) here = none
  copies (text t) here = none
  copies (array js) here = all (row_copies js here)
  copies (object ms) here = none

  pub row_copies : Row → Surroundings → List (Looking Member)
  row_copies no_items here = []
  row_copies (item j js) here = copied here (copy_in j) ∷ row_copies js here

  pub copy_in : Json → Option Copy
  copy_in null = None
  copy_in (bool b) = None
  copy_in (int z) = None
  copy_in (text t) = None
  copy_in (array js) = None
  copy_in (object ms) = copy_of (parts ms)

  pub parts : Pairs → List Part
  parts no_pairs = []
  parts (pair k j ms) = record { name = k; tree = j; value = tree_value j } ∷ parts ms
