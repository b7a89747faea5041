-- Where an expression is, and what it sees of a plan at a point.
use Rattle.std.specs.Prelude.{◌<◌, ℕ, Bool, List, length}
use Rattle.arm_ids.specs.declared.id.Place.{Place}
use Rattle.arm_env.specs.declared.env.Looping.{Looping}
use Rattle.plan_table.specs.declared.table.Table.{Table}
use Rattle.plan_table.specs.Found.{scope_at}
use Rattle.plan_sight.specs.Ready.{IsReady}
use Rattle.plan_telling.specs.Seats.{Seat}
use Rattle.point_rows.specs.declared.later.Later.{Later}
use Rattle.point_rows.specs.Rows.{rows_now, IsFit}

-- what is seen at the point by an expression in the scope of a frame
abbrev pub seat_now : Table → Later → ℕ → Place → List Looping → Bool → Seat
seat_now t l f place loops by_names =
    ((rows_now t l, t.template.now), (((scope_at t f).position, place), (loops, by_names)))

-- the table may be asked, there is an entry for each line, and the frame is of the table
pub record IsSeatedNow (t : Table) (l : Later) (f : ℕ) : Type 0 where
  pub ready : IsReady t
  pub fit : IsFit t l
  pub there : f < length t.frames.items
