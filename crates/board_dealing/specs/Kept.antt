-- What a board keeps: what its agenda has to do with the history.
use Rattle.std.specs.Prelude.{◌≡◌, ◌⊎◌, ◌<◌, ◌≤◌, ℕ, Bool, true, false, List, [], ◌∷◌, ◌++◌, length, Option, Some}
use Rattle.std.specs.Prelude.{None, slice_get}
use Rattle.depend_graph.specs.Shape as graph
use Rattle.plan_cells.specs.Known.{Table}
use Rattle.plan_cells.specs.Tasks.{Task, enter, leave, put, delete}
use Rattle.deploy_histories.specs.Planned.{Planned}
use Rattle.deploy_histories.specs.Events as event
use Rattle.deploy_histories.specs.Events.{Event, Progress, progress, is_waiting, done_status}
use Rattle.deploy_histories.specs.Legal.{IsLegal}
use Rattle.deploy_histories.specs.Readiness.{needs_first}
use Rattle.task_standings.specs.Seen.{IsSeen}
use Rattle.task_standings.specs.declared.standing.Kind.{Kind}
use Rattle.task_standings.specs.declared.standing.Kind.TheVariants.{Enter, Put, Delete, Leave}
use Rattle.task_standings.specs.Standings.{Needs, IsStuck, AreScopesSeen}
use Rattle.task_agenda.specs.declared.agenda.Agenda.{Agenda}
use Rattle.task_agenda.specs.Agendas.{count, is_scope, IsSeenTo}

abbrev pub enters_or_leaves : Task → Bool
enters_or_leaves (enter p) = true
enters_or_leaves (leave p) = true
enters_or_leaves (put p s) = false
enters_or_leaves (delete k) = false

-- the same by its kind
abbrev pub kind_of_scope : Kind → Bool
kind_of_scope Enter = true
kind_of_scope Leave = true
kind_of_scope Put = false
kind_of_scope Delete = false

-- the task after whose event others are looked at
abbrev pub waker : Event → Option ℕ
waker (event.enter u) = Some u
waker (event.answer u a) = Some u
waker (event.back u) = Some u
waker (event.leave u) = Some u
waker _ = None

module _ (x : Planned) (h : List Event) (a : Agenda) where
  -- two tasks, of which one needs the other
  pub record IsNeeded (u v : ℕ) : Type 0 where
    pub task : Task
    pub is_task : slice_get x.tasks u ≡ Some task
    pub other : Task
    pub is_other : slice_get x.tasks v ≡ Some other
    pub needs : Needs x (progress h) task other

  -- an event from this place on has the task looked at
  pub record IsWoken (seen u : ℕ) : Type 0 where
    pub place : ℕ
    pub from : seen ≤ place
    pub happened : Event
    pub is_there : slice_get h place ≡ Some happened
    pub waking : ℕ
    pub wakes : waker happened ≡ Some waking
    pub is_concerned : (waking ≡ u) ⊎ graph.Needs a.graph u waking

  -- a value of the task is none
  pub record IsStuckTask (u : ℕ) : Type 0 where
    pub task : Task
    pub is_task : slice_get x.tasks u ≡ Some task
    pub is_stuck : IsStuck x (progress h) task

  -- the task is listed or a need of it is not done; or it will be looked at; or it is never ready
  abbrev pub IsCovered : ℕ → ℕ → Type 0
  IsCovered seen u = IsSeenTo a u ⊎ (IsWoken seen u ⊎ IsStuckTask u)

-- what a board keeps of a plan by what it knows: its history, its agenda, and how many events it has looked at
pub record IsKept (x : Planned) (t : Table) (tasks : ℕ) (h : List Event) (a : Agenda) (seen : ℕ) : Type 0 where
  pub is_legal : IsLegal x h
  pub is_seen : IsSeen x (progress h) t
  pub scopes : AreScopesSeen x (progress h) t
  pub tasks_are : tasks ≡ length x.tasks
  pub agenda_of : count a ≡ length x.tasks
  pub kinds_are : (u : ℕ) (task : Task) → slice_get x.tasks u ≡ Some task → is_scope a u ≡ enters_or_leaves task
  pub sized : length a.graph.done ≡ length x.tasks
  pub done_are : (u : ℕ) → u < length x.tasks → graph.is_done a.graph u ≡ done_status ((progress h).status u)
  pub start_needs : (u v : ℕ) (task other : Task) → slice_get x.tasks u ≡ Some task → slice_get x.tasks v ≡ Some other
      → needs_first x task other ≡ true → graph.Needs a.graph u v
  pub needs_are : (u v : ℕ) → graph.Needs a.graph u v → IsNeeded x h a u v
  pub within : seen ≤ length h
  pub covered : (u : ℕ) → u < length x.tasks → (progress h).status u ≡ is_waiting → IsCovered x h a seen u

-- the event concerns this task alone
pub record Concerns (h : List Event) (e : Event) (u : ℕ) : Type 0 where
  pub others : (v : ℕ) → (v ≡ u → ⊥) → (progress (h ++ e ∷ [])).status v ≡ (progress h).status v
  pub itself : (progress (h ++ e ∷ [])).status u ≡ is_waiting → waker e ≡ Some u

-- the task is done by the event, and no other task changes
pub record Does (h : List Event) (e : Event) (u : ℕ) : Type 0 where
  pub others : (v : ℕ) → (v ≡ u → ⊥) → (progress (h ++ e ∷ [])).status v ≡ (progress h).status v
  pub itself : done_status ((progress (h ++ e ∷ [])).status u) ≡ true
  pub wakes : waker e ≡ Some u
