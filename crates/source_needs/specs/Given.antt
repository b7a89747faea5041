-- What a task of a program reads for its values, and which cells have their values by a task.
use Rattle.std.specs.Prelude.{◌≡◌, ◌⊎◌, ℕ, ◌&&◌, Bool, true, false, List, Option, Some, is_some, option_and_then}
use Rattle.arm_value.specs.Json.{Json}
use Rattle.arm_ids.specs.declared.id.ResourceId.{ResourceId}
use Rattle.reading.specs.Knowledge.{Has}
use Rattle.reading.specs.World.{reads_in}
use Rattle.deploy_cells.specs.Cells.{Step, Position, Cell, World, parameter, variable, output, name}
use Rattle.deploy_cells.specs.Guarded.{Reads}
use Rattle.deploy_cells.specs.Same.{same_position}
use Rattle.plan_cells.specs.Reads.{is_state_at}
use Rattle.plan_cells.specs.Tasks.{Task, enter, leave, put, delete, key_by}
use Rattle.source_worlds.specs.Instances.{SourceProgram, file_at, output_folded, kinds, raw, bodies}

-- the key of an instance, by its type and its name
abbrev pub key_of : SourceProgram → World → Position → Step → Option ResourceId
key_of d w p s = option_and_then (key_by d.place (kinds d p s.resource)) (w (name p s))

-- whether the file of an instance declares an output of a folded name
abbrev pub declares_output : SourceProgram → Position → List ℕ → Bool
declares_output d p x = is_some (option_and_then (λ f. output_folded f x) (file_at d.files p))

abbrev pub is_output_of : SourceProgram → Position → Cell → Bool
is_output_of d p (output q x) = same_position p q && declares_output d q x
is_output_of d p c = false

-- whether a cell has its value by a task: the state at the key that it puts, or an output of the scope that it leaves
abbrev pub is_given_by : SourceProgram → World → Task → Cell → Bool
is_given_by d w (put p s) c = is_state_at (key_of d w p s) c
is_given_by d w (leave p) c = is_output_of d p c
is_given_by d w _ c = false

-- what is read for a value of a task: for the parameters and variables of a scope that is entered, for the body of what
-- is put, and for the outputs of a scope that is left
abbrev pub IsReadingOf : SourceProgram → Reads Json → Task → Type 0
IsReadingOf d r (enter p) =
    (x : List ℕ) × ((raw d (parameter p x) ≡ Some r) ⊎ (raw d (variable p x) ≡ Some r))
IsReadingOf d r (put p s) = bodies d p s ≡ Some r
IsReadingOf d r (leave p) = (x : List ℕ) × (raw d (output p x) ≡ Some r)
IsReadingOf d r (delete k) = ⊥

-- a value of the first task reads what the second gives
pub record ReadsFrom (d : SourceProgram) (w : World) (u v : Task) : Type 0 where
  pub reading : Reads Json
  pub is_of : IsReadingOf d reading u
  pub cell : Cell
  pub is_read : Has cell (reads_in w reading)
  pub is_given : is_given_by d w v cell ≡ true
