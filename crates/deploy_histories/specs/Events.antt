-- What happens in a deployment, and how far each task is after it.
use Rattle.std.specs.Prelude.{◌≡◌, ℕ, nat_eq, Bool, true, false, List, [], ◌∷◌, Option, Some, None, if◌then◌else◌}
use Rattle.arm_value.specs.Json.{Json}
use Rattle.provider_trait.specs.declared.answer.Answer.{Answer}
use Rattle.provider_trait.specs.declared.answer.Answer.TheVariants.{Stored, Gone, Refused}

-- tasks and workers are named by their numbers
pub data Event : Type 0 where
  -- the scope of a task is entered
  enter : ℕ → Event
  -- a task is given to a worker with a body, which is null for a deletion
  begin : ℕ → ℕ → Json → Event
  -- the task that was begun has this answer
  answer : ℕ → Answer → Event
  -- the task that was begun has no answer
  back : ℕ → Event
  -- the scope of a task is left
  leave : ℕ → Event
  -- the service has stopped and started again
  crash : Event

-- how far a task is
pub data Status : Type 0 where
  -- it was not begun, or it was given back or refused
  is_waiting : Status
  -- a Begin of it is open, by this worker and with this body
  is_begun : ℕ → Json → Status
  -- it is done; a put by the state that was stored
  is_done : Option Json → Status

-- an answer by which a task was refused
pub record Refusal : Type 0 where
  pub task : ℕ
  pub code : List ℕ

-- how far each task is, and the first answer that refused
pub record Progress : Type 0 where
  pub status : ℕ → Status
  pub refusal : Option Refusal

-- the one task has the status, the others are unchanged
abbrev pub changed : ℕ → Status → (ℕ → Status) → ℕ → Status
changed u s f v = if nat_eq v u then s else f v

abbrev pub with_status : ℕ → Status → Progress → Progress
with_status u s p = record { status = changed u s p.status; refusal = p.refusal }

abbrev pub first_refusal : Option Refusal → Refusal → Option Refusal
first_refusal None r = Some r
first_refusal (Some q) r = Some q

abbrev pub after_answer : ℕ → Answer → Progress → Progress
after_answer u (Stored j) p = with_status u (is_done (Some j)) p
after_answer u Gone p = with_status u (is_done None) p
after_answer u (Refused code) p =
    record {
      status = changed u is_waiting p.status;
      refusal = first_refusal p.refusal (record { task = u; code = code });
    }

-- a crash closes each open Begin
abbrev pub closed : Status → Status
closed (is_begun worker body) = is_waiting
closed s = s

abbrev pub after : Event → Progress → Progress
after (enter u) p = with_status u (is_done None) p
after (begin u worker body) p = with_status u (is_begun worker body) p
after (answer u a) p = after_answer u a p
after (back u) p = with_status u is_waiting p
after (leave u) p = with_status u (is_done None) p
after crash p = record { status = λ u. closed (p.status u); refusal = p.refusal }

abbrev pub after_all : List Event → Progress → Progress
after_all [] p = p
after_all (e ∷ es) p = after_all es (after e p)

-- before anything has happened
abbrev pub at_opening : Progress
at_opening = record { status = λ u. is_waiting; refusal = None }

-- how far the tasks are after a history, oldest event first
abbrev pub progress : List Event → Progress
progress h = after_all h at_opening

-- the task is done, or a Begin of it is open
abbrev pub done_status : Status → Bool
done_status (is_done o) = true
done_status _ = false

abbrev pub state_in : Status → Option Json
state_in (is_done o) = o
state_in _ = None

abbrev pub IsDone : Progress → ℕ → Type 0
IsDone p u = done_status (p.status u) ≡ true

abbrev pub IsBegun : Progress → ℕ → Type 0
IsBegun p u = (worker : ℕ) × ((body : Json) × (p.status u ≡ is_begun worker body))

-- no Begin is open
abbrev pub NoneBegun : Progress → Type 0
NoneBegun p = (u : ℕ) → IsBegun p u → ⊥
