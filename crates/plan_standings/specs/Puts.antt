-- The readiness of a put at a point of a deployment.
use Rattle.std.specs.Prelude.{◌≡◌, ℕ, List, Option, Some, None}
use Rattle.arm_ids.specs.Held.{HeldResource}
use Rattle.reading.specs.Knowledge.{no_value}
use Rattle.deploy_cells.specs.Guarded.{there_if}
use Rattle.plan_cells.specs.Meaning.{bodies}
use Rattle.plan_table.specs.declared.frame.Instance.{Instance}
use Rattle.plan_table.specs.Opened.{step_of}
use Rattle.plan_table.specs.Whole.{whole_of}
use Rattle.plan_table.specs.Found.{scope_at}
use Rattle.task_aims.specs.Plan.{Plan}
use Rattle.deploy_histories.specs.Events.{Event, progress}
use Rattle.task_aims.specs.Planned.{planned_by}
use Rattle.point_rows.specs.declared.later.Later.{Later}
use Rattle.point_rows.specs.Rows.{known_now, told_now}
use Rattle.task_standings.specs.declared.standing.Standing.{Standing}
use Rattle.task_standings.specs.Standings.{IsStanding}
use Rattle.plan_standings.specs.Waits.{table_of}

-- the readiness of the task, if that is returned
abbrev pub IsLookAt : Plan → List HeldResource → List Event → Later → Later → ℕ → Option Standing → Type 0
IsLookAt g held h l m u None = Unit {0}
IsLookAt g held h l m u (Some s) =
    IsStanding (planned_by g held) (progress h) (known_now (table_of g) m) u s

-- the body of an instance of a scope has no value, by what is known
abbrev pub IsBodyless : Plan → Later → ℕ → Instance → Type 0
IsBodyless g l f i =
    told_now (table_of g) l
    (there_if (bodies (whole_of (table_of g)) (scope_at (table_of g) f).position (step_of i))) ≡ no_value
