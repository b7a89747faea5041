-- What keeps a task from beginning at the end of a deployment: what its values wait for, and what is never known.
use Rattle.std.specs.Prelude.{◌≡◌, ℕ, true, false, List, slice_get, Option, Some, None}
use Rattle.arm_ids.specs.Held.{HeldResource}
use Rattle.reading.specs.Knowledge.{missing}
use Rattle.deploy_cells.specs.Cells.{Cell}
use Rattle.plan_cells.specs.Known as known
use Rattle.plan_cells.specs.Children.{Has}
use Rattle.plan_cells.specs.Start.{start_world}
use Rattle.plan_cells.specs.Tasks.{Task}
use Rattle.plan_cells.specs.Reads.{is_given_by}
use Rattle.task_aims.specs.Plan.{Plan}
use Rattle.deploy_histories.specs.Planned.{Planned}
use Rattle.deploy_histories.specs.Events.{Event, Progress, progress, done_status}
use Rattle.deploy_histories.specs.Points.{IsTableOf}
use Rattle.task_aims.specs.Planned.{planned_by}
use Rattle.point_rows.specs.declared.later.Later.{Later}
use Rattle.point_rows.specs.Rows.{known_now}
use Rattle.scope_faults.specs.Entries.{own_of}
use Rattle.task_standings.specs.declared.standing.Failing.{Failing}
use Rattle.task_standings.specs.declared.standing.Failing.TheVariants.{Faulty, Needs}
use Rattle.task_standings.specs.Failures.{IsFailing}
use Rattle.plan_standings.specs.Waits.{table_of}
use Rattle.plan_standings.specs.Tells.{tells}

-- the task gives the cell, and is not done
pub record IsGiver (x : Planned) (p : Progress) (c : Cell) (v : ℕ) : Type 0 where
  pub is_undone : done_status (p.status v) ≡ false
  pub giver : Task
  pub is_task : slice_get x.tasks v ≡ Some giver
  pub gives : is_given_by x.deployment (start_world x.known) giver c ≡ true

-- it is needed, if one is returned
abbrev pub IsNeed : Planned → Progress → Cell → Option Failing → Type 0
IsNeed x p c None = Unit {0}
IsNeed x p c (Some (Needs v)) = IsGiver x p c v
IsNeed x p c (Some (Faulty said)) = ⊥

-- what of the parameters and variables of a scope is missing is missing in the table of all that is known
abbrev pub IsNeverFilled : Plan → List HeldResource → List Event → Later → ℕ → Type 0
IsNeverFilled g held h l f =
    (a : known.Table) → IsTableOf (planned_by g held) (progress h) a → (c : Cell) → Has c (own_of (table_of g) f)
    → known_now (table_of g) l c ≡ missing → a c ≡ missing

-- why the task cannot begin, if that is returned
abbrev pub IsFailingLook : Planned → Progress → ℕ → Option Failing → Type 0
IsFailingLook x p u None = Unit {0}
IsFailingLook x p u (Some f) = IsFailing tells x p u f
