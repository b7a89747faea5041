-- How a deployment has ended, and which causes of its failure are true.
use Rattle.std.specs.Prelude.{◌≡◌, ◌≤◌, ℕ, true, false, List, [], ◌∷◌, Some, slice_get}
use Rattle.plan_cells.specs.Known.{Table}
use Rattle.plan_cells.specs.Tasks.{Task}
use Rattle.deploy_histories.specs.Planned.{Planned}
use Rattle.deploy_histories.specs.Events.{Progress, Refusal, done_status}
use Rattle.deploy_histories.specs.Points.{IsTableOf}
use Rattle.deploy_histories.specs.Readiness.{Readiness, Fault, at_fault, readiness, needs_now}
use Rattle.deploy_histories.specs.Legal.{AllDone}

pub data Ending : Type 0 where
  succeeded : Ending
  -- this was the first answer that refused
  refused : Refusal → Ending
  -- the task needs nothing more, and this is why it is not ready
  faulty : ℕ → Fault → Ending
  -- each of these tasks needs the next, and the last the first, which is the least
  circular : ℕ → List ℕ → Ending

module _ (x : Planned) (p : Progress) where
  -- a task is in this state of readiness, by what is known
  pub record Stands (u : ℕ) (r : Readiness) : Type 0 where
    pub task : Task
    pub is_task : slice_get x.tasks u ≡ Some task
    pub known : Table
    pub is_table : IsTableOf x p known
    pub is : readiness x known p.status u task ≡ r

  -- a task that is not done needs another, by what is known
  pub record NeedsUndone (u v : ℕ) : Type 0 where
    pub task : Task
    pub other : Task
    pub is_task : slice_get x.tasks u ≡ Some task
    pub is_other : slice_get x.tasks v ≡ Some other
    pub is_undone : done_status (p.status u) ≡ false
    pub known : Table
    pub is_table : IsTableOf x p known
    pub is_needed : needs_now x known task other ≡ true

  -- each needs the next, and the last the end
  abbrev pub NeedInTurn : ℕ → List ℕ → ℕ → Type 0
  NeedInTurn u [] end = NeedsUndone u end
  NeedInTurn u (v ∷ vs) end = NeedsUndone u v × NeedInTurn v vs end

  abbrev pub AtLeast : ℕ → List ℕ → Type 0
  AtLeast u [] = Unit {0}
  AtLeast u (v ∷ vs) = (u ≤ v) × AtLeast u vs

  -- the ending is a true one
  abbrev pub IsEnding : Ending → Type 0
  IsEnding succeeded = AllDone x p
  IsEnding (refused r) = p.refusal ≡ Some r
  IsEnding (faulty u f) = Stands u (at_fault f)
  IsEnding (circular u us) = NeedInTurn u us u × AtLeast u us
