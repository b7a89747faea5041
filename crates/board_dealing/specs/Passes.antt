-- What is changed where scopes are entered and left.
use Rattle.std.specs.Prelude.{◌≡◌, ◌<◌, ◌+◌, ℕ, zero, suc, Bool, true, false, List, length, Result, Ok, Err}
use Rattle.std.specs.Prelude.{if◌then◌else◌}
use Rattle.std.specs.declared.alloc.AllocError.{AllocError}
use Rattle.depend_graph.specs.Shape.{with_done}
use Rattle.plan_cells.specs.Known.{Table}
use Rattle.deploy_histories.specs.Planned.{Planned}
use Rattle.deploy_histories.specs.Events.{Event, Status, done_status, progress}
use Rattle.board_history.specs.Past.{Past, with_event}
use Rattle.task_agenda.specs.declared.agenda.Agenda.{Agenda}
use Rattle.task_agenda.specs.Agendas.{HasGraph}
use Rattle.board_dealing.specs.Kept.{IsKept}
use Rattle.board_dealing.specs.Looks.{NoScopeListed}

-- the event by which the task is done is in the history, and the task is done in the agenda; after an error nothing is
-- changed
abbrev pub IsNotedAs : Past → Past → Agenda → Agenda → ℕ → Event → Result (Unit {0}) AllocError → Type 0
IsNotedAs old new a b u e (Ok done) = (new ≡ with_event old e) × HasGraph a b (with_done a.graph u)
IsNotedAs old new a b u e (Err f) = (new ≡ old) × (b ≡ a)

-- what was kept is kept, after as many events as were looked at
abbrev pub GoesOn : Planned → Table → Table → Past → Past → Agenda → Agenda → Type 0
GoesOn x s t old new a b = (seen : ℕ) → IsKept x s old.count old.events a seen → IsKept x t new.count new.events b seen

-- how many of the first tasks are not done
unfoldable pub undone_in : ℕ → (ℕ → Status) → ℕ
undone_in zero f = 0
undone_in (suc n) f = (if done_status (f n) then 0 else 1) + undone_in n f

-- fewer tasks are not done
abbrev pub Fewer : Planned → List Event → List Event → Type 0
Fewer x old new =
    undone_in (length x.tasks) (progress new).status < undone_in (length x.tasks) (progress old).status

-- one scope more was entered or left, and all events were looked at; or no task of scopes is listed, and nothing
-- happened
abbrev pub IsSettledOnce : Planned → List Event → List Event → Agenda → ℕ → ℕ → Bool → Type 0
IsSettledOnce x old new b was seen true = Fewer x old new × (seen ≡ length new)
IsSettledOnce x old new b was seen false = NoScopeListed b × ((new ≡ old) × (seen ≡ was))
