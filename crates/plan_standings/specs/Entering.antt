-- The readiness of the entry of a scope at a point of a deployment.
use Rattle.std.specs.Prelude.{ℕ, List, Option, Some, None}
use Rattle.arm_ids.specs.Held.{HeldResource}
use Rattle.reading.specs.Knowledge.{Grows}
use Rattle.task_aims.specs.Plan.{Plan}
use Rattle.deploy_histories.specs.Events.{Event, progress}
use Rattle.task_aims.specs.Planned.{planned_by}
use Rattle.point_rows.specs.declared.later.Later.{Later}
use Rattle.point_rows.specs.Rows.{known_now, IsFit}
use Rattle.scope_faults.specs.Entries.{AreTold}
use Rattle.task_standings.specs.declared.standing.Standing.{Standing}
use Rattle.task_standings.specs.Standings.{IsStanding, Enters, IsScopeSeen}
use Rattle.plan_standings.specs.Waits.{table_of, IsKeptAt}

-- states, parameters and variables became known
pub record HasMore (g : Plan) (held : List HeldResource) (h : List Event) (l m : Later) : Type 0 where
  pub fit : IsFit (table_of g) m
  pub told : AreTold (table_of g) m
  pub grows : Grows (known_now (table_of g) l) (known_now (table_of g) m)
  pub kept : IsKeptAt (planned_by g held) (progress h) (table_of g) m

-- the readiness of the task, and where it is ready, that what its scope has is known
abbrev pub IsEntryLook : Plan → List HeldResource → List Event → Later → Later → ℕ → Option Standing → Type 0
IsEntryLook g held h l m u None = Unit {0}
IsEntryLook g held h l m u (Some s) =
    IsStanding (planned_by g held) (progress h) (known_now (table_of g) m) u s
    × (Enters (planned_by g held) u s → IsScopeSeen (planned_by g held) (known_now (table_of g) m) u)
