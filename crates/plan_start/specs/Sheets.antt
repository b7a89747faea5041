-- How a sheet is kept, and what it says of a cell.
use Rattle.std.specs.Prelude.{◌≡◌, ◌<◌, length, Some}
use Rattle.reading.specs.World.{Each}
use Rattle.reading.specs.Knowledge.{absent, value, waits}
use Rattle.arm_value.specs.View.{json}
use Rattle.deploy_cells.specs.Cells.{state}
use Rattle.plan_cells.specs.Known.{entry_told}
use Rattle.plan_cells.specs.Meaning.{plain}
use Rattle.plan_filling.specs.Rows.{row_at}
use Rattle.plan_filling.specs.declared.sheet.Answer.{Answer}
use Rattle.plan_filling.specs.declared.sheet.Answer.TheVariants as answer
use Rattle.plan_table.specs.declared.table.Table.{Table}
use Rattle.plan_table.specs.declared.line.Spot.{Spot}
use Rattle.plan_table.specs.Lines.{cell_of}
use Rattle.plan_table.specs.Whole.{whole_of, scopes_of, rows_in, IsLaid}
use Rattle.plan_table.specs.Counted.{IsCounted}
use Rattle.plan_sight.specs.Ready.{told_in}
use Rattle.plan_telling.specs.declared.register.Register.{Register}
use Rattle.plan_telling.specs.Symbols.{IsOfScope}

-- the symbolic names that are kept are those of scopes
abbrev pub AreOfScopes : Register → Type 0
AreOfScopes r = Each (IsOfScope (whole_of r.table).template) r.kept.items

-- each cell is found at its place, instances are counted, and the symbolic names that are kept are those of scopes
pub record IsSheet (r : Register) : Type 0 where
  pub laid : IsLaid r.table
  pub counted : IsCounted r.table
  pub kept : AreOfScopes r

-- what is answered of a cell is what is told of its own reading
abbrev pub IsAnswer : Table → Spot → Answer → Type 0
IsAnswer t s (answer.Value v) = told_in t (plain (whole_of t) (cell_of (scopes_of t) s)) ≡ value (Some (json v))
IsAnswer t s answer.Empty = entry_told (told_in t (plain (whole_of t) (cell_of (scopes_of t) s))) ≡ absent
IsAnswer t s (answer.Waits j) =
    (j < length (rows_in t))
    × (told_in t (plain (whole_of t) (cell_of (scopes_of t) s)) ≡ waits (row_at (rows_in t) j).cell)
IsAnswer t s (answer.State k) = told_in t (plain (whole_of t) (cell_of (scopes_of t) s)) ≡ waits (state k)
