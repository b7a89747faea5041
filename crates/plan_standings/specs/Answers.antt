-- What is answered of a task of which a value lacks something.
use Rattle.std.specs.Prelude.{◌≡◌, ℕ, suc, List, length, Option, Some, None}
use Rattle.arm_ids.specs.Held.{HeldResource}
use Rattle.reading.specs.Knowledge.{waits}
use Rattle.deploy_cells.specs.Cells.{Cell}
use Rattle.plan_cells.specs.Children.{Has}
use Rattle.plan_cells.specs.Tasks.{Task}
use Rattle.plan_sight.specs.declared.lack.Lack.{Lack}
use Rattle.plan_sight.specs.Seen.{Lacks}
use Rattle.task_aims.specs.Plan.{Plan}
use Rattle.task_aims.specs.Plans.{deployment_of}
use Rattle.deploy_histories.specs.Events.{Event, progress}
use Rattle.deploy_histories.specs.Values.{TaskValue, task_values}
use Rattle.task_aims.specs.Planned.{planned_by}
use Rattle.point_rows.specs.declared.later.Later.{Later}
use Rattle.point_rows.specs.Rows.{known_now, told_now}
use Rattle.task_standings.specs.declared.standing.Standing.{Standing}
use Rattle.task_standings.specs.declared.standing.Standing.TheVariants.{Ready, Waits, Stuck}
use Rattle.task_standings.specs.Standings.{StandsAs}
use Rattle.plan_standings.specs.Waits.{table_of, IsInSight}

-- a value of the task lacks this; what it waits for is in sight
pub record IsLacking (g : Plan) (held : List HeldResource) (h : List Event) (l : Later) (task : Task) (e : Lack)
    : Type 0 where
  pub lacking : TaskValue
  pub is_value : Has lacking (task_values (deployment_of g) task)
  pub lacks : Lacks (table_of g) e (told_now (table_of g) l lacking.reading)
  pub in_sight : (c : Cell) → told_now (table_of g) l lacking.reading ≡ waits c
      → IsInSight (deployment_of g) (known_now (table_of g) l) c

abbrev pub IsUnready : Standing → Type 0
IsUnready (Ready body) = ⊥
IsUnready (Waits v) = Unit {0}
IsUnready Stuck = Unit {0}

-- where none is returned, one more state is known
abbrev pub IsOneMore : {A : Type 0} → Later → Later → Option A → Type 0
IsOneMore l m None = length m.states.items ≡ suc (length l.states.items)
IsOneMore l m (Some s) = Unit {0}

-- the readiness of the task, which is not ready
abbrev pub IsAnswer : Plan → List HeldResource → List Event → Later → Later → ℕ → Task → Option Standing → Type 0
IsAnswer g held h l m u task None = Unit {0}
IsAnswer g held h l m u task (Some s) =
    IsUnready s × StandsAs (planned_by g held) (progress h) (known_now (table_of g) m) u task s
