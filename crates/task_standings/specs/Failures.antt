-- Why a task cannot begin at the end of a deployment, by all that is known.
use Rattle.std.specs.Prelude.{◌≡◌, ℕ, true, false, Some, slice_get}
use Rattle.board_history.specs.Known.{Table}
use Rattle.board_history.specs.Tasks.{Task}
use Rattle.board_history.specs.Planned.{Planned}
use Rattle.board_history.specs.Events.{Progress, done_status}
use Rattle.board_history.specs.Points.{IsTableOf}
use Rattle.board_history.specs.Readiness as readiness
use Rattle.board_history.specs.Readiness.{at_fault, needs_now}
use Rattle.task_standings.specs.declared.standing.TaskFault.{TaskFault}
use Rattle.task_standings.specs.declared.standing.Failing.{Failing}
use Rattle.task_standings.specs.declared.standing.Failing.TheVariants.{Faulty, Needs}

module _ (x : Planned) (p : Progress) where
  -- the task needs nothing more, and this is its fault
  pub record IsFaulty (u : ℕ) (f : readiness.Fault) : Type 0 where
    pub task : Task
    pub is_task : slice_get x.tasks u ≡ Some task
    pub by_all : (t : Table) → IsTableOf x p t → readiness.readiness x t p.status u task ≡ at_fault f

  -- the first task needs the second, and neither is done
  pub record NeedsUndone (u v : ℕ) : Type 0 where
    pub task : Task
    pub is_task : slice_get x.tasks u ≡ Some task
    pub other : Task
    pub is_other : slice_get x.tasks v ≡ Some other
    pub is_undone : done_status (p.status u) ≡ false
    pub other_undone : done_status (p.status v) ≡ false
    pub by_all : (t : Table) → IsTableOf x p t → needs_now x t task other ≡ true

-- what is said of the fault of a task
abbrev pub Tells : Type 1
Tells = Planned → ℕ → readiness.Fault → TaskFault → Type 0

-- what is said of the fault is said of a fault of the task
abbrev pub TellsFault : Tells → Planned → Progress → ℕ → TaskFault → Type 0
TellsFault tells x p u said = (f : readiness.Fault) × (tells x u f said × IsFaulty x p u f)

-- why a task that is not done cannot begin
abbrev pub IsFailing : Tells → Planned → Progress → ℕ → Failing → Type 0
IsFailing tells x p u (Faulty said) = TellsFault tells x p u said
IsFailing tells x p u (Needs v) = NeedsUndone x p u v
