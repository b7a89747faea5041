-- How far tasks are, by the places of events in a history.
use Rattle.std.specs.Prelude.{◌≡◌, ℕ, ◌+◌, ◌^◌, ◌<◌, ◌≤◌, Bool, true, false, List, [], ◌∷◌, length, slice_get}
use Rattle.std.specs.Prelude.{slice_index_or, is_some, Option, Some, None, if◌then◌else◌}
use Rattle.arm_value.specs.Json.{Json}
use Rattle.provider_trait.specs.declared.answer.Answer.{Answer}
use Rattle.provider_trait.specs.declared.answer.Answer.TheVariants.{Stored, Gone, Refused}
use Rattle.deploy_histories.specs.Events.{Event, begin, answer, Status, is_waiting, is_begun}
use Rattle.deploy_histories.specs.Events.{is_done, Refusal, progress}
use Rattle.board_history.specs.declared.stage.Stage.{Stage}
use Rattle.board_history.specs.declared.stage.Stage.TheVariants.{Waiting, Begun, Done}

-- a Begin of the task is open
abbrev pub begun_status : Status → Bool
begun_status (is_begun worker body) = true
begun_status _ = false

-- whether the answer is a refusal
abbrev pub refuses : Answer → Bool
refuses (Refused code) = true
refuses (Stored j) = false
refuses Gone = false

-- the status of a task of which this is the open Begin
abbrev pub begun_by : Option Event → Status
begun_by (Some (begin u worker body)) = is_begun worker body
begun_by _ = is_waiting

-- the status of a task that is done by this event
abbrev pub done_by : Option Event → Status
done_by (Some (answer u (Stored j))) = is_done (Some j)
done_by _ = is_done None

-- the status of a task, by its stage
abbrev pub status_by : List Event → Stage → Status
status_by es Waiting = is_waiting
status_by es (Begun place) = begun_by (slice_get es place)
status_by es (Done place) = done_by (slice_get es place)

-- the place of a stage is one of so many
abbrev pub IsWithin : ℕ → Stage → Type 0
IsWithin n Waiting = Unit {0}
IsWithin n (Begun place) = place < n
IsWithin n (Done place) = place < n

-- the stage is one of an open Begin, exactly where the place has a Begin
abbrev pub IsOfBegin : List Event → Stage → Type 0
IsOfBegin es Waiting = Unit {0}
IsOfBegin es (Begun place) = begun_status (begun_by (slice_get es place)) ≡ true
IsOfBegin es (Done place) = Unit {0}

abbrev pub stage_at : List Stage → ℕ → Stage
stage_at stages u = slice_index_or stages u Waiting

abbrev pub is_open : Stage → Bool
is_open Waiting = false
is_open (Begun place) = true
is_open (Done place) = false

-- how many Begins are open
abbrev pub count_open : List Stage → ℕ
count_open [] = 0
count_open (s ∷ ss) = (if is_open s then 1 else 0) + count_open ss

-- a crash closes each open Begin
abbrev pub closed_stage : Stage → Stage
closed_stage Waiting = Waiting
closed_stage (Begun place) = Waiting
closed_stage (Done place) = Done place

-- the refusal that the event is
abbrev pub refusal_in : Option Event → Option Refusal
refusal_in (Some (answer u (Refused code))) = Some (record { task = u; code = code })
refusal_in _ = None

-- the first refusal, by its place
abbrev pub refusal_by : List Event → Option ℕ → Option Refusal
refusal_by es None = None
refusal_by es (Some place) = refusal_in (slice_get es place)

-- the place is that of a refusal
abbrev pub IsPlace : List Event → Option ℕ → Type 0
IsPlace es None = Unit {0}
IsPlace es (Some place) = (place < length es) × (is_some (refusal_in (slice_get es place)) ≡ true)

-- the place of the first refusal: the one that there is, or else this one
abbrev pub first_of : Option ℕ → ℕ → Option ℕ
first_of (Some first) place = Some first
first_of None place = Some place

-- the state that an answer has, and the code by which it refuses
abbrev pub stored_in : Answer → Option Json
stored_in (Stored j) = Some j
stored_in Gone = None
stored_in (Refused code) = None

abbrev pub code_in : Answer → Option (List ℕ)
code_in (Stored j) = None
code_in Gone = None
code_in (Refused code) = Some code

-- the stages, the place of the first refusal and the number of open Begins are those of the events; there is room for
-- the end of each open Begin; and tasks have numbers of 32 bits
pub record IsKept (es : List Event) (stages : List Stage) (refusal : Option ℕ) (opened room : ℕ) : Type 0 where
  pub statuses : (u : ℕ) → (progress es).status u ≡ status_by es (stage_at stages u)
  pub within : (u : ℕ) → IsWithin (length es) (stage_at stages u)
  pub begins : (u : ℕ) → IsOfBegin es (stage_at stages u)
  pub refused : (progress es).refusal ≡ refusal_by es refusal
  pub place : IsPlace es refusal
  pub counted : opened ≡ count_open stages
  pub has_room : length es + opened ≤ room
  pub few : length stages < 2 ^ 32
