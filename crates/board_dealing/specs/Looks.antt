-- What is found where listed tasks are looked at.
use Rattle.std.specs.Prelude.{◌≡◌, ◌<◌, ◌==◌, ℕ, Bool, true, false, List, length, Option, Some, None}
use Rattle.std.specs.Prelude.{Result, Ok, Err, slice_get}
use Rattle.std.specs.declared.alloc.AllocError.{AllocError}
use Rattle.arm_value.specs.Json.{Json, null}
use Rattle.arm_value.specs.View.{json}
use Rattle.arm_value.specs.declared.value.Value.{Value}
use Rattle.depend_graph.specs.Shape.{Needs, undone_needs, with_edge}
use Rattle.deploy_cells.specs.Cells.{Position}
use Rattle.plan_cells.specs.Known.{Table}
use Rattle.plan_cells.specs.Tasks as task
use Rattle.plan_cells.specs.Tasks.{Task}
use Rattle.deploy_histories.specs.Planned.{Planned}
use Rattle.deploy_histories.specs.Events.{Event, Progress, is_waiting}
use Rattle.deploy_histories.specs.Legal.{MayStart}
use Rattle.task_standings.specs.Standings.{FitsTask, IsScopeSeen}
use Rattle.task_agenda.specs.declared.agenda.Agenda.{Agenda}
use Rattle.task_agenda.specs.Agendas.{is_scope, is_listed, listed_count, IsSeenTo, HasGraph, TakesOff}
use Rattle.board_dealing.specs.Kept.{waker, IsKept}

-- the task of the number may start with this body
pub record IsReady (x : Planned) (p : Progress) (u : ℕ) (body : Json) : Type 0 where
  pub of : Task
  pub may_start : MayStart x p u of body
  pub fits : FitsTask of body

-- where the task enters a scope, what the scope has is known; where it leaves one, the outputs of it are noted
pub record IsPrepared (x : Planned) (t : Table) (noted : ℕ → Type 0) (u : ℕ) : Type 0 where
  pub entered : (q : Position) → slice_get x.tasks u ≡ Some (task.enter q) → IsScopeSeen x t u
  pub is_noted : (q : Position) → slice_get x.tasks u ≡ Some (task.leave q) → noted u

-- whether the task waits, and nothing that it is known to need is undone
abbrev pub IsFree : Progress → Agenda → ℕ → Bool → Type 0
IsFree p a u true = (p.status u ≡ is_waiting) × (length (undone_needs a.graph u) ≡ 0)
IsFree p a u false = p.status u ≡ is_waiting → 0 < length (undone_needs a.graph u)

-- the task is listed no more, and the others are listed as before
pub record IsOff (old new : Agenda) (u : ℕ) : Type 0 where
  pub kinds : new.kinds.items ≡ old.kinds.items
  pub itself : is_listed new u ≡ false
  pub others : (v : ℕ) → (v == u) ≡ false → is_listed new v ≡ is_listed old v
  pub fewer : is_listed old u ≡ true → listed_count new < listed_count old

-- the task needs another from now on, and is listed no more
pub record NeedsAnother (old new : Agenda) (u v : ℕ) : Type 0 where
  pub between : Agenda
  pub needs : HasGraph old between (with_edge old.graph u v)
  pub off : TakesOff between new u

-- or, after OutOfMemory, nothing is changed
abbrev pub IsPutOff : Agenda → Agenda → ℕ → ℕ → Result (Option Value) AllocError → Type 0
IsPutOff old new u v (Ok (Some body)) = ⊥
IsPutOff old new u v (Ok None) = NeedsAnother old new u v
IsPutOff old new u v (Err e) = HasGraph old new old.graph

-- the task is ready and listed still, or it is taken off the list
abbrev pub IsLooked : Planned → Progress → Table → (ℕ → Type 0) → Agenda → Agenda → ℕ → Option Value → Type 0
IsLooked x p t noted old new u (Some body) = (IsReady x p u (json body) × IsPrepared x t noted u) × (new ≡ old)
IsLooked x p t noted old new u None = IsOff old new u

-- no task of scopes is listed
abbrev pub NoScopeListed : Agenda → Type 0
NoScopeListed a = (u : ℕ) → is_scope a u ≡ true → is_listed a u ≡ false

abbrev pub NoActListed : Agenda → Type 0
NoActListed a = (u : ℕ) → is_scope a u ≡ false → is_listed a u ≡ false

-- a scope may be entered or left, and no task of scopes before it is listed
pub record IsReadyFirst (x : Planned) (p : Progress) (t : Table) (noted : ℕ → Type 0) (a : Agenda) (u : ℕ)
    : Type 0 where
  pub of_scope : is_scope a u ≡ true
  pub is_ready : IsReady x p u null
  pub is_prepared : IsPrepared x t noted u
  pub is_first : (v : ℕ) → is_scope a v ≡ true → v < u → is_listed a v ≡ false

-- the first scope that may be entered or left, or no task of scopes is listed
abbrev pub IsReadyScope : Planned → Progress → Table → (ℕ → Type 0) → Agenda → Option ℕ → Type 0
IsReadyScope x p t noted a (Some u) = IsReadyFirst x p t noted a u
IsReadyScope x p t noted a None = NoScopeListed a

-- a task may be put or deleted, or none such is listed; where no task of scopes was listed, none is
abbrev pub IsReadyAct : Planned → Progress → Agenda → Agenda → Option (ℕ × Value) → Type 0
IsReadyAct x p old new (Some f) = (is_scope new f.0 ≡ false) × IsReady x p f.0 (json f.1)
IsReadyAct x p old new None = NoActListed new × (NoScopeListed old → NoScopeListed new)

-- what was kept is kept, after as many events as were looked at
abbrev pub StaysKept : Planned → Table → Table → ℕ → List Event → Agenda → Agenda → Type 0
StaysKept x s t tasks h old new = (seen : ℕ) → IsKept x s tasks h old seen → IsKept x t tasks h new seen

-- the task is listed or held up, and so is each that needs it
pub record IsAwake (a : Agenda) (v : ℕ) : Type 0 where
  pub itself : IsSeenTo a v
  pub others : (u : ℕ) → Needs a.graph u v → IsSeenTo a u

-- whoever waits for the event is looked at again
abbrev pub IsHeard : Agenda → Event → Type 0
IsHeard a e = (v : ℕ) → waker e ≡ Some v → IsAwake a v
