-- The value of an output of a template, with its condition or its loop (Microsoft Learn, "Outputs in ARM templates").
use Rattle.std.specs.Prelude.{ℕ, zero, suc, Bool, true, false, List, [], ◌∷◌, Option, Some, None}
use Rattle.arm_value.specs.Json.{Json}
use Rattle.arm_env.specs.Kinds.{truth_of}
use Rattle.reading.specs.Reading.{pure, none, continued}
use Rattle.arm_env.specs.declared.env.Looping.{Looping}
use Rattle.arm_env.specs.Look.{Looking, Surroundings}
use Rattle.arm_eval.specs.Trees.{tree_value, counting, array_of}

-- the loop of an output, which has no name
abbrev pub output_loop : ℕ → Looping
output_loop i = record { name = None; index = i; main = true }

-- the surroundings inside it
abbrev pub in_output : ℕ → Surroundings → Surroundings
in_output i here = record here { loops = output_loop i ∷ here.loops }

-- the input at an index
abbrev pub input_at : Json → Surroundings → ℕ → Looking Json
input_at j here i = tree_value j (in_output i here)

-- the input at n indices from i on
abbrev pub inputs : Json → Surroundings → ℕ → ℕ → List (Looking Json)
inputs j here i zero = []
inputs j here i (suc n) = input_at j here i ∷ inputs j here (suc i) n

-- the count and the input of an output's `copy`
pub record Copied : Type 0 where
  pub count : Json
  pub input : Json

-- what gives an output its value: the tree of `value`, or `copy`
pub data Content : Type 0 where
  a_tree : Json → Content
  a_copy : Copied → Content

abbrev pub content_value : Content → Surroundings → Looking Json
content_value (a_tree j) here = tree_value j here
content_value (a_copy c) here =
    continued (counting (tree_value c.count here)) (λ n. array_of (inputs c.input here 0 n))

-- what is there of an output where its condition is this truth value: what gives its value, or
-- nothing where it is left away
abbrev pub where_true : Option Bool → Looking Json → Looking (Option Json)
where_true (Some true) o = continued o (λ j. pure (Some j))
where_true (Some false) o = pure None
where_true None o = none

-- the value of an output, or that its condition leaves it away; an output without a condition is there
abbrev pub output_value : Option Json → Content → Surroundings → Looking (Option Json)
output_value None c here = where_true (Some true) (content_value c here)
output_value (Some condition) c here =
    continued (tree_value condition here) (λ v. where_true (truth_of v) (content_value c here))
