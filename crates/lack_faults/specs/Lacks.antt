-- Lines of a filled table for which there is no plan, and why.
use Rattle.std.specs.Prelude.{◌≡◌, ℕ, true, false, List, None}
use Rattle.arm_value.specs.Json.{Json}
use Rattle.reading.specs.Knowledge.{value, waits}
use Rattle.deploy_cells.specs.Cells.{Cell, is_admitted}
use Rattle.deploy_cells.specs.Guarded.{Reads}
use Rattle.reading.specs.Knowledge.{blanked}
use Rattle.plan_cells.specs.Known as known
use Rattle.plan_cells.specs.Meaning.{raw, rule}
use Rattle.plan_filling.specs.Rows.{status_of, table}
use Rattle.plan_table.specs.declared.line.Spot.{Spot}
use Rattle.plan_table.specs.declared.table.Table.{Table}
use Rattle.plan_table.specs.Lines.{cell_of, IsPlaced}
use Rattle.plan_table.specs.Whole.{whole_of, scopes_of, rows_in}
use Rattle.plan_sight.specs.declared.lack.Lack.{Lack}
use Rattle.plan_sight.specs.Ready.{told_in}
use Rattle.plan_sight.specs.Seen.{Stops}
use Rattle.plan_paths.specs.CellPaths.{cell_path}
use Rattle.plan_faults.specs.Known.{IsCellAt, IsAskedAt, IsNeededAt}

-- what the lines of a table have
abbrev pub known_by_lines : Table → known.Table
known_by_lines t = table (status_of (rows_in t))

-- what is at a path lacks this; where it waits for a cell, it is asked for at the start
pub record IsLackAt (t : Table) (path : List ℕ) (e : Lack) : Type 0 where
  pub reading : Reads Json
  pub is_needed : IsNeededAt (whole_of t) (known_by_lines t) path reading
  pub is_asked : (c : Cell) → told_in t reading ≡ waits c → IsAskedAt (whole_of t) (known_by_lines t) path reading
  pub stops : Stops t e (told_in t reading)

-- the value that is read for a cell breaks its rule, and its text is at the path
pub record IsBrokenAt (t : Table) (s : Spot) (path : List ℕ) (j : Json) : Type 0 where
  pub is_placed : IsPlaced (scopes_of t) s
  pub reading : Reads Json
  pub is_cell : IsCellAt (whole_of t) (known_by_lines t) path (cell_of (scopes_of t) s) reading
  pub has : told_in t reading ≡ value j
  pub breaks : rule (whole_of t) (cell_of (scopes_of t) s) j ≡ false

-- nothing is read for a cell that is there, and its text is at the path
pub record IsMissingAt (t : Table) (s : Spot) (path : List ℕ) : Type 0 where
  pub is_placed : IsPlaced (scopes_of t) s
  pub is_there : is_admitted (blanked (known_by_lines t)) (cell_of (scopes_of t) s) ≡ true
  pub has_none : raw (whole_of t) (cell_of (scopes_of t) s) ≡ None
  pub has_path : cell_path (whole_of t).template (cell_of (scopes_of t) s) ≡ path
