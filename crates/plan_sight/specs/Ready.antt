-- A table of which something is asked, and what is told by it.
use Rattle.reading.specs.Knowledge.{Told, told}
use Rattle.plan_cells.specs.Cells.{Cell}
use Rattle.plan_cells.specs.Guarded.{Reads}
use Rattle.plan_table.specs.Rows.{status_of, table}
use Rattle.plan_table.specs.Sound.{Sound}
use Rattle.plan_table.specs.declared.table.Table.{Table}
use Rattle.plan_table.specs.Whole.{whole_of, rows_in, IsLaid}

-- the lines are laid out, and what is known of their cells is so
pub record IsReady (t : Table) : Type 0 where
  pub laid : IsLaid t
  pub sound : Sound (whole_of t) (rows_in t)

-- what is told of a reading by what the table has
abbrev pub told_in : {A : Type 0} → Table → Reads A → Told Cell A
told_in t r = told (table (status_of (rows_in t))) r
