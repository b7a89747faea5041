-- What is told at a point of the value of a cell.
use Rattle.std.specs.Prelude.{Option}
use Rattle.arm_value.specs.Json.{Json}
use Rattle.reading.specs.Knowledge.{Told}
use Rattle.deploy_cells.specs.Cells.{Cell}
use Rattle.deploy_cells.specs.Guarded.{there_if}
use Rattle.plan_cells.specs.Meaning.{raw}
use Rattle.plan_table.specs.declared.table.Table.{Table}
use Rattle.plan_table.specs.declared.line.Spot.{Spot}
use Rattle.plan_table.specs.Lines.{cell_of}
use Rattle.plan_table.specs.Whole.{whole_of, scopes_of}
use Rattle.point_rows.specs.declared.later.Later.{Later}
use Rattle.point_rows.specs.Rows.{told_now}

-- what is told of the value of a cell, before its rule is asked; where there is no such cell it is not there
abbrev pub raw_now : Table → Later → Spot → Told Cell (Option Json)
raw_now t l s = told_now t l (there_if (raw (whole_of t) (cell_of (scopes_of t) s)))
