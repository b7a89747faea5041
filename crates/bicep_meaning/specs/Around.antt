-- What surrounds an expression: the instance of its file, the loops, and what the declarations of the file mean.
use Rattle.std.specs.Prelude.{ℕ, zero, suc, pos, List, [], ◌∷◌, Option, Some, None}
use Rattle.function_prints.specs.Json.{Json, int}
use Rattle.deploy_cells.specs.Place.{Place}
use Rattle.deploy_cells.specs.ResourceId.{ResourceId}
use Rattle.arm_env.specs.Part.{part_of}
use Rattle.reading.specs.Reading.{done, pure, none, continued}
use Rattle.deploy_cells.specs.Cells.{Position}
use Rattle.deploy_cells.specs.Guarded.{Reads}
use Rattle.bicep_meaning.specs.Files.{SourceFile}
use Rattle.bicep_meaning.specs.Rows.{all, by_both, runs_of, array_of}

-- an instance of a file: its position, its place, the file, and all files of the program
pub record Here : Type 0 where
  pub at : Position
  pub place : Place
  pub file : SourceFile
  pub files : List SourceFile

-- one run of a loop: both are read only where they are used
pub record Frame : Type 0 where
  pub item : Reads Json
  pub index : Reads Json

-- the run at an index of a loop over a value
unfoldable pub element : Reads Json → Reads Json → Frame
element xs i = record { item = by_both part_of xs i; index = i }

abbrev pub run_at : Reads Json → ℕ → Frame
run_at xs i = element xs (pure (int (pos i)))

abbrev pub item_of : Option Frame → Reads Json
item_of None = none
item_of (Some f) = f.item

abbrev pub index_of : Option Frame → Reads Json
index_of None = none
index_of (Some f) = f.index

-- what the body of a loop gives in n runs from index i on
abbrev pub runs : (Frame → Reads Json) → Reads Json → ℕ → ℕ → List (Reads Json)
runs body xs i zero = []
runs body xs i (suc n) = body (run_at xs i) ∷ runs body xs (suc i) n

-- how often a loop over the value runs
abbrev pub counted : Reads Json → Reads ℕ
counted xs = continued xs (λ j. done (runs_of j))

-- the array of what the body of a loop gives
unfoldable pub looped : Reads Json → (Frame → Reads Json) → Reads Json
looped xs body = continued (counted xs) (λ n. continued (all (runs body xs 0 n)) (λ vs. pure (array_of vs)))

-- what the declarations of the file mean at a use of them, by their numbers; a resource or a module is read with the
-- loop around its declaration, where there is one
pub record Around : Type 0 where
  pub variable : ℕ → Reads Json
  -- what a loop of resources or modules runs over
  pub items : ℕ → Reads Json
  -- of a resource or a module: its own name, its name after those of its parents, and whether it is included
  pub name : ℕ → List Frame → Reads Json
  pub full_name : ℕ → List Frame → Reads Json
  pub condition : ℕ → List Frame → Reads Json
  -- of a resource
  pub id : ℕ → List Frame → Reads ResourceId
