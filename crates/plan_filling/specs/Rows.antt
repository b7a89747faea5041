-- The rows of a sheet: a cell, and how far it is.
use Rattle.std.specs.Prelude.{◌≡◌, ℕ, ◌+◌, if◌then◌else◌, List, [], ◌∷◌}
use Rattle.std.specs.Prelude.{slice_set, slice_index_or, Option, Some, None}
use Rattle.arm_value.specs.Json.{Json}
use Rattle.arm_ids.specs.declared.id.ResourceId.{ResourceId}
use Rattle.reading.specs.Knowledge.{Known, known, absent, missing}
use Rattle.plan_cells.specs.Cells.{Cell, deployments}
use Rattle.plan_cells.specs.Same.{same}
use Rattle.plan_cells.specs.Known.{Table}
use Rattle.plan_filling.specs.declared.sheet.Stage.{Stage}
use Rattle.plan_filling.specs.declared.sheet.Stage.TheVariants as stage

-- how far a cell is: not begun; begun, and what it waits for is on the way; it has a value; it has none; or it waits
-- for the state at a key
pub data Status : Type 0 where
  New : Status
  Open : Status
  Value : Json → Status
  Empty : Status
  Late : ResourceId → Status

abbrev pub with_value : Json → Status
with_value v = Value v

pub record Row : Type 0 where
  pub cell : Cell
  pub status : Status

abbrev pub fresh : Cell → Row
fresh c = record { cell = c; status = New }

abbrev pub row_at : List Row → ℕ → Row
row_at rows i = slice_index_or rows i (fresh (deployments []))

abbrev pub with_status : List Row → ℕ → Status → List Row
with_status rows i s = slice_set rows i (record { cell = (row_at rows i).cell; status = s })

-- how far a cell is, where it is listed
abbrev pub status_of : List Row → Cell → Option Status
status_of [] c = None
status_of (r ∷ rs) c = if same r.cell c then Some r.status else status_of rs c

abbrev pub known_by : Option Status → Known Json
known_by (Some (Value v)) = known v
known_by (Some Empty) = absent
known_by _ = missing

-- what is known of each cell
abbrev pub table : (Cell → Option Status) → Table
table σ c = known_by (σ c)

abbrev pub stage_of : Status → Stage
stage_of New = stage.New
stage_of Open = stage.Open
stage_of (Value v) = stage.Finished
stage_of Empty = stage.Finished
stage_of (Late k) = stage.Late

abbrev pub IsUnfinished : Status → Type 0
IsUnfinished New = Unit {0}
IsUnfinished Open = Unit {0}
IsUnfinished _ = ⊥

abbrev pub IsFinished : Status → Type 0
IsFinished New = ⊥
IsFinished Open = ⊥
IsFinished _ = Unit {0}

-- it waits for a state
abbrev pub IsWaiting : Status → Type 0
IsWaiting (Late k) = Unit {0}
IsWaiting _ = ⊥

abbrev pub weight : Status → ℕ
weight New = 0
weight Open = 1
weight _ = 2

-- how much has been done
abbrev pub weights : List Row → ℕ
weights [] = 0
weights (r ∷ rs) = weight r.status + weights rs

-- no cell is listed twice
abbrev pub AreDistinct : List Row → Type 0
AreDistinct [] = Unit {0}
AreDistinct (r ∷ rs) = (status_of rs r.cell ≡ None) × AreDistinct rs
