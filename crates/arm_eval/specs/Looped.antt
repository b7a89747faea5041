-- The loop of a variable, or of an argument of a nested deployment (Microsoft Learn, "Variable iteration in ARM
-- templates").
use Rattle.std.specs.Prelude.{ℕ, List, Some}
use Rattle.arm_value.specs.Json.{Json}
use Rattle.reading.specs.Reading.{pure, continued}
use Rattle.arm_env.specs.Look.{Looking, Surroundings}
use Rattle.arm_eval.specs.Trees.{tree_value, copied}

-- the array of a loop of this name, count and input
abbrev pub looped : List ℕ → Json → Json → Surroundings → Looking Json
looped name count input here =
    continued (copied here (Some (record { name = name; count = tree_value count; input = tree_value input })))
    (λ m. pure m.1)
