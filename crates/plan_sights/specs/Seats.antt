-- Where an expression is, and what it sees of a table.
use Rattle.std.specs.Prelude.{◌≡◌, ℕ, ◌<◌, Bool, true, false, List, length, Option}
use Rattle.arm_ids.specs.declared.id.Place.{Place}
use Rattle.arm_env.specs.declared.env.Looping.{Looping}
use Rattle.arm_env.specs.declared.stop.Stop.{Stop}
use Rattle.arm_env.specs.declared.stop.Stop.TheVariants as stop
use Rattle.arm_env.specs.Cell.{look_of}
use Rattle.arm_env.specs.Look.{Look, Fact}
use Rattle.reading.specs.Knowledge.{Known, Told, told}
use Rattle.template_tree.specs.View.{template_tree}
use Rattle.template_tree.specs.declared.resource.Template.{Template}
use Rattle.deploy_cells.specs.Cells.{Position, Cell}
use Rattle.plan_sight.specs.Sites.{Texts, ids_alone, names, Site, looked_up}
use Rattle.plan_table.specs.declared.table.Table.{Table}
use Rattle.plan_table.specs.Rows.{Row, status_of, table}
use Rattle.plan_table.specs.Whole.{rows_in}
use Rattle.plan_table.specs.Found.{scope_at}
use Rattle.plan_sight.specs.declared.lack.Lack.{Lack}
use Rattle.plan_sight.specs.declared.lack.Lack.TheVariants as lack
use Rattle.plan_sight.specs.Ready.{IsReady}
use Rattle.plan_sights.specs.declared.lacking.Lacking.{Lacking}
use Rattle.plan_sights.specs.declared.lacking.Lacking.TheVariants as lacking
use Rattle.plan_sights.specs.Resolved.{known_of}

abbrev pub lacking_of : Lack → Lacking
lacking_of lack.NotThere = lacking.Nothing
lacking_of lack.NoValue = lacking.Missing
lacking_of (lack.Line j) = lacking.Missing
lacking_of (lack.State k) = lacking.Missing
lacking_of lack.OutOfMemory = lacking.OutOfMemory

-- the rows of a table and its template; the position and the place of a scope; the loops around, and whether texts are
-- names
abbrev pub Seat : Type 0
Seat = (List Row × Template) × ((Position × Place) × (List Looping × Bool))

abbrev pub texts_of : Bool → Texts
texts_of true = names
texts_of false = ids_alone

abbrev pub site_of : Seat → Site
site_of s = record { at = s.1.0.0; loops = s.1.1.0; texts = texts_of s.1.1.1 }

-- what is told of the reading in the place of a cell that an expression looks at
abbrev pub seen_in : Seat → Look → Told Cell (Option Fact)
seen_in s c = told (table (status_of s.0.0)) (looked_up (template_tree s.0.1) s.1.0.1 (site_of s) c)

abbrev pub known_in : Seat → Look → Known Fact
known_in s c = known_of (seen_in s c)

-- what is seen by an expression in the scope of a frame
abbrev pub seat_of : Table → ℕ → Place → List Looping → Bool → Seat
seat_of t f place loops by_names =
    ((rows_in t, t.template.now), (((scope_at t f).position, place), (loops, by_names)))

-- the table may be asked, and the frame is of it
pub record IsSeated (t : Table) (f : ℕ) : Type 0 where
  pub ready : IsReady t
  pub there : f < length t.frames.items

-- the stop waits for the cell, unless memory ran out
abbrev pub IsAwait : Stop → Look → Type 0
IsAwait stop.NoValue c = ⊥
IsAwait (stop.Waits d) c = look_of d ≡ c
IsAwait stop.OutOfMemory c = Unit {0}
