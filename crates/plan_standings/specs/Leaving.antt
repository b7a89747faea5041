-- The readiness of the leave of a scope at a point of a deployment.
use Rattle.std.specs.Prelude.{◌≡◌, ℕ, List, Option, Some, None}
use Rattle.arm_value.specs.Json.{null}
use Rattle.arm_value.specs.View.{json}
use Rattle.arm_value.specs.declared.value.Value.{Value}
use Rattle.arm_ids.specs.Held.{HeldResource}
use Rattle.task_aims.specs.Plan.{Plan}
use Rattle.deploy_histories.specs.Events.{Event, progress}
use Rattle.task_aims.specs.Planned.{planned_by}
use Rattle.point_rows.specs.declared.later.Later.{Later}
use Rattle.point_rows.specs.Rows.{known_now}
use Rattle.scope_faults.specs.Outputs.{names_of, AreNoted}
use Rattle.task_standings.specs.declared.standing.Standing.TheVariants.{Ready}
use Rattle.task_standings.specs.Standings.{IsStanding}
use Rattle.plan_standings.specs.Waits.{table_of}
use Rattle.plan_standings.specs.Answers.{IsUnready}
use Rattle.plan_standings.specs.declared.leaving.Leaving.{Leaving}
use Rattle.plan_standings.specs.declared.leaving.Leaving.TheVariants.{Told, Stands}

-- the outputs of the scope are told, and the task of the number is ready with null; or it is not ready, and this is
-- returned
abbrev pub IsLeaving : Plan → List HeldResource → List Event → Later → ℕ → ℕ → Leaving → Type 0
IsLeaving g held h m f u (Told ns) =
    AreNoted (table_of g) m f (names_of (table_of g) f) ns.items
    × ((v : Value) → json v ≡ null
    → IsStanding (planned_by g held) (progress h) (known_now (table_of g) m) u (Ready v))
IsLeaving g held h m f u (Stands s) =
    IsUnready s × IsStanding (planned_by g held) (progress h) (known_now (table_of g) m) u s

-- the same, if that is returned
abbrev pub IsLeaveLook : Plan → List HeldResource → List Event → Later → Later → ℕ → ℕ → Option Leaving → Type 0
IsLeaveLook g held h l m f u None = Unit {0}
IsLeaveLook g held h l m f u (Some y) = IsLeaving g held h m f u y
