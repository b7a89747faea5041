-- Which task of a template needs which, in a world (Microsoft Learn, "Define the order for deploying resources in ARM
-- templates"): by what is known of names, order and batches, or by what the values of a task read.
use Rattle.std.specs.Prelude.{◌≡◌, ◌⊎◌, ℕ, true, List, Some}
use Rattle.arm_value.specs.Json.{Json}
use Rattle.arm_value.specs.Kinds.{is_true}
use Rattle.reading.specs.Knowledge.{Has}
use Rattle.reading.specs.World.{value_in, reads_in}
use Rattle.deploy_cells.specs.Cells.{Position, Cell, World, parameter, variable, offered, output}
use Rattle.deploy_cells.specs.Guarded.{Reads}
use Rattle.plan_cells.specs.Meaning.{Deployment, raw, bodies}
use Rattle.plan_cells.specs.Needs.{needs}
use Rattle.plan_cells.specs.Reads.{is_given_by}
use Rattle.plan_cells.specs.Tasks.{Task, enter, leave, put, delete}

-- what is read for an output: for its condition, and where that is true for its value
abbrev pub IsOutputReading : Deployment → World → Reads Json → Position → List ℕ → Type 0
IsOutputReading t w r p x =
    (raw t (offered p x) ≡ Some r) ⊎ ((is_true (w (offered p x)) ≡ true) × (raw t (output p x) ≡ Some r))

-- what is read for a value of a task: for the parameters and variables of a scope that is entered, for the body of what
-- is put, and for the outputs of a scope that is left
abbrev pub IsReadingOf : Deployment → World → Reads Json → Task → Type 0
IsReadingOf t w r (enter p) =
    (x : List ℕ) × ((raw t (parameter p x) ≡ Some r) ⊎ (raw t (variable p x) ≡ Some r))
IsReadingOf t w r (put p s) = bodies t p s ≡ Some r
IsReadingOf t w r (leave p) = (x : List ℕ) × IsOutputReading t w r p x
IsReadingOf t w r (delete k) = ⊥

-- a value of the first task reads what the second gives
pub record ReadsFrom (t : Deployment) (w : World) (u v : Task) : Type 0 where
  pub reading : Reads Json
  pub is_of : IsReadingOf t w reading u
  pub cell : Cell
  pub is_read : Has cell (reads_in w reading)
  pub is_given : is_given_by t w v cell ≡ true

pub data Needs (t : Deployment) (w : World) (u v : Task) : Type 0 where
  by_rule : value_in w (needs t u v) ≡ Some true → Needs t w u v
  by_values : ReadsFrom t w u v → Needs t w u v
