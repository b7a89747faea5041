-- What a look at the table returns.
use Rattle.std.specs.Prelude.{◌≡◌, ◌<◌, length, Option, Some, None, Result, Ok, Err}
use Rattle.reading.specs.Knowledge.{Told, value, no_value, waits}
use Rattle.plan_cells.specs.Cells.{Cell, state}
use Rattle.plan_table.specs.Rows.{row_at}
use Rattle.plan_table.specs.declared.table.Table.{Table}
use Rattle.plan_table.specs.Whole.{rows_in}
use Rattle.plan_sight.specs.declared.lack.Lack.{Lack}
use Rattle.plan_sight.specs.declared.lack.Lack.TheVariants as lack

-- why a reading of what may be missing returns nothing
abbrev pub Lacks : {A : Type 0} → Table → Lack → Told Cell (Option A) → Type 0
Lacks t lack.NotThere u = u ≡ value None
Lacks t lack.NoValue u = u ≡ no_value
Lacks t (lack.Line j) u = (j < length (rows_in t)) × (u ≡ waits (row_at (rows_in t) j).cell)
Lacks t (lack.State k) u = u ≡ waits (state k)
Lacks t lack.OutOfMemory u = Unit {0}

-- what is returned, seen by a view, is what is told, unless memory ran out
abbrev pub Shows : {X A : Type 0} → (X → A) → Table → Result X Lack → Told Cell (Option A) → Type 0
Shows view t (Ok x) u = u ≡ value (Some (view x))
Shows view t (Err e) u = Lacks t e u

-- why a reading returns nothing
abbrev pub Stops : {A : Type 0} → Table → Lack → Told Cell A → Type 0
Stops t lack.NotThere u = ⊥
Stops t lack.NoValue u = u ≡ no_value
Stops t (lack.Line j) u = (j < length (rows_in t)) × (u ≡ waits (row_at (rows_in t) j).cell)
Stops t (lack.State k) u = u ≡ waits (state k)
Stops t lack.OutOfMemory u = Unit {0}

abbrev pub Yields : {X A : Type 0} → (X → A) → Table → Result X Lack → Told Cell A → Type 0
Yields view t (Ok x) u = u ≡ value (view x)
Yields view t (Err e) u = Stops t e u
