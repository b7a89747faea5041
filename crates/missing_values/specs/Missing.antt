-- Where a tree has no value: the path of the deepest tree in it that has none.
use Rattle.std.specs.Prelude.{◌++◌, ℕ, zero, suc, List, [], ◌∷◌, Option, Some, None, option_map, codes, if◌then◌else◌}
use Rattle.arm_value.specs.Json.{Json, null, bool, int, text, array}
use Rattle.arm_value.specs.Json.{object, Row, no_items, item, Pairs, no_pairs, pair}
use Rattle.arm_value.specs.Look.{is_same_folded}
use Rattle.reading.specs.Reading.{pure, continued}
use Rattle.arm_env.specs.Look.{Looking, Surroundings}
use Rattle.expression_values.specs.Meaning.{outcome}
use Rattle.arm_eval.specs.Trees.{Copy, tree_value, copy_of, parts, counting, within}
use Rattle.arm_expr.specs.Brackets.{is_copy}

-- a step to a part: to the member of a name, or to the item at a place, counted from 0
pub data Step : Type 0 where
  a_member : List ℕ → Step
  an_item : ℕ → Step

-- a path from a tree to a part of it, its innermost step first
abbrev pub Path : Type 0
Path = List Step

-- the path to the deepest part without a value, or that each part has one
abbrev pub Missing : Type 0
Missing = Looking (Option Path)

-- the path in a part, seen from around the part
abbrev pub below : Step → Missing → Missing
below s o = continued o (λ r. pure (option_map (λ path. path ++ s ∷ []) r))

abbrev pub or_else : Option Path → Missing → Missing
or_else (Some path) rest = pure (Some path)
or_else None rest = rest

-- the first path of two
abbrev pub or_later : Missing → Missing → Missing
or_later o rest = continued o (λ r. or_else r rest)

-- the path to a part, or to the whole
abbrev pub or_whole : Option Path → Path
or_whole (Some path) = path
or_whole None = []

-- of a whole with a value there is no path, and of one without it is that of its parts, or its own
abbrev pub by_value : Option Json → Missing → Missing
by_value (Some v) inside = pure None
by_value None inside = continued inside (λ r. pure (Some (or_whole r)))

abbrev pub in_whole : Looking Json → Missing → Missing
in_whole o inside = continued (outcome o) (λ v. by_value v inside)

-- in an input at the first of n indices from i on at which it has no value
abbrev pub first_turn : (Surroundings → Missing) → List ℕ → Surroundings → ℕ → ℕ → Missing
first_turn input name here i zero = pure None
first_turn input name here i (suc n) = or_later (input (within name i here)) (first_turn input name here (suc i) n)

abbrev pub each_turn : (Surroundings → Missing) → List ℕ → Surroundings → Option ℕ → Missing
each_turn input name here None = pure None
each_turn input name here (Some n) = first_turn input name here 0 n

-- in the input of a loop, where its count is one
abbrev pub in_input : (Surroundings → Missing) → Copy → Surroundings → Missing
in_input input c here = continued (outcome (counting (c.count here))) (each_turn input c.name here)

-- in a member of a loop: in its count, or in its input
abbrev pub in_loop_member : Copy → List ℕ → (Surroundings → Missing) → Surroundings → Missing
in_loop_member c name tree here =
    if is_same_folded (codes "count") name then tree here
    else if is_same_folded (codes "input") name then in_input tree c here
    else pure None

-- in a loop, where it is one
abbrev pub in_loop : Option Copy → (Copy → Missing) → Missing
in_loop None inside = pure None
in_loop (Some c) inside = inside c

abbrev mutual
  -- the path to the deepest tree without a value; none where the whole has one
  pub missing_path : Json → Surroundings → Missing
  missing_path null here = in_whole (tree_value null here) (pure None)
  missing_path (bool b) here = in_whole (tree_value (bool b) here) (pure None)
  missing_path (int z) here = in_whole (tree_value (int z) here) (pure None)
  missing_path (text t) here = in_whole (tree_value (text t) here) (pure None)
  missing_path (array js) here = in_whole (tree_value (array js) here) (first_item js here 0)
  missing_path (object ms) here = in_whole (tree_value (object ms) here) (first_member ms here)

  -- in the first of these items, which begin at a place, that has no value
  pub first_item : Row → Surroundings → ℕ → Missing
  first_item no_items here i = pure None
  first_item (item j js) here i = or_later (below (an_item i) (missing_path j here)) (first_item js here (suc i))

  -- in the first of these members that has no value, among them `copy`
  pub first_member : Pairs → Surroundings → Missing
  first_member no_pairs here = pure None
  first_member (pair k j ms) here =
      or_later (below (a_member k) (if is_copy k then in_copy j here else missing_path j here)) (first_member ms here)

  -- in the loops of `copy`
  pub in_copy : Json → Surroundings → Missing
  in_copy null here = pure None
  in_copy (bool b) here = pure None
  in_copy (int z) here = pure None
  in_copy (text t) here = pure None
  in_copy (array js) here = first_loop js here 0
  in_copy (object ms) here = pure None

  pub first_loop : Row → Surroundings → ℕ → Missing
  first_loop no_items here i = pure None
  first_loop (item j js) here i = or_later (below (an_item i) (loop_at j here)) (first_loop js here (suc i))

  pub loop_at : Json → Surroundings → Missing
  loop_at null here = pure None
  loop_at (bool b) here = pure None
  loop_at (int z) here = pure None
  loop_at (text t) here = pure None
  loop_at (array js) here = pure None
  loop_at (object ms) here = in_loop (copy_of (parts ms)) (λ c. first_loop_member c ms here)

  pub first_loop_member : Copy → Pairs → Surroundings → Missing
  first_loop_member c no_pairs here = pure None
  first_loop_member c (pair k j ms) here =
      or_later (below (a_member k) (in_loop_member c k (missing_path j) here)) (first_loop_member c ms here)

-- in the parts of a tree
abbrev pub in_parts : Json → Surroundings → Missing
in_parts null here = pure None
in_parts (bool b) here = pure None
in_parts (int z) here = pure None
in_parts (text t) here = pure None
in_parts (array js) here = first_item js here 0
in_parts (object ms) here = first_member ms here

-- in a member
abbrev pub in_member : List ℕ → Json → Surroundings → Missing
in_member k j here = if is_copy k then in_copy j here else missing_path j here
