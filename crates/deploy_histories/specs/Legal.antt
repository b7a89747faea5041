-- Which histories are legal, and which have ended.
use Rattle.std.specs.Prelude.{◌≡◌, ◌≢◌, ◌⊎◌, ℕ, List, [], ◌∷◌, Some, None, slice_get}
use Rattle.arm_value.specs.Json.{Json, null}
use Rattle.provider_trait.specs.Answer.{Suits}
use Rattle.provider_trait.specs.declared.act.Act.TheVariants.{Put, Delete}
use Rattle.provider_trait.specs.declared.answer.Answer.{Answer}
use Rattle.deploy_cells.specs.Cells.{Position}
use Rattle.plan_cells.specs.Known.{Table}
use Rattle.plan_cells.specs.Tasks as task
use Rattle.plan_cells.specs.Tasks.{Task}
use Rattle.deploy_histories.specs.Planned.{Planned}
use Rattle.deploy_histories.specs.Events.{Event, enter, begin, answer, back, leave, crash, Progress, after, at_opening}
use Rattle.deploy_histories.specs.Events.{IsDone, IsBegun, NoneBegun}
use Rattle.deploy_histories.specs.Points.{IsKnownThen}
use Rattle.deploy_histories.specs.Readiness.{readiness, ready}

-- a task is put or deleted
abbrev pub IsAct : Task → Type 0
IsAct (task.put p s) = Unit {0}
IsAct (task.delete k) = Unit {0}
IsAct (task.enter p) = ⊥
IsAct (task.leave p) = ⊥

-- which answers suit a task: those of a put, or of a deletion
abbrev pub SuitsTask : Task → Answer → Type 0
SuitsTask (task.put p s) a = Suits Put a
SuitsTask (task.delete k) a = Suits Delete a
SuitsTask (task.enter p) a = ⊥
SuitsTask (task.leave p) a = ⊥

module _ (x : Planned) (p : Progress) where
  -- the task of the number is ready, with this body, by some of what is known; and no answer has refused
  pub record MayStart (u : ℕ) (t : Task) (body : Json) : Type 0 where
    pub unrefused : p.refusal ≡ None
    pub is_task : slice_get x.tasks u ≡ Some t
    pub known : Table
    pub is_known : IsKnownThen x p known
    pub is_ready : readiness x known p.status u t ≡ ready body

  -- a Begin of the task is open, and the answer suits the task
  pub record MayEnd (u : ℕ) (a : Answer) : Type 0 where
    pub is_begun : IsBegun p u
    pub ended : Task
    pub is_task : slice_get x.tasks u ≡ Some ended
    pub suits : SuitsTask ended a

  -- the event may come
  abbrev pub May : Event → Type 0
  May (enter u) = (q : Position) × MayStart u (task.enter q) null
  May (begin u worker body) = (t : Task) × (IsAct t × MayStart u t body)
  May (answer u a) = MayEnd u a
  May (back u) = IsBegun p u
  May (leave u) = (q : Position) × MayStart u (task.leave q) null
  May crash = Unit {0}

  -- every task is done
  abbrev pub AllDone : Type 0
  AllDone = (u : ℕ) (t : Task) → slice_get x.tasks u ≡ Some t → IsDone p u

  -- no event but a crash may come
  abbrev pub NothingMay : Type 0
  NothingMay = (e : Event) → May e → e ≡ crash

  -- no Begin is open; and an answer has refused, or every task is done, or no event but a crash may come
  pub record HasEnded : Type 0 where
    pub none_begun : NoneBegun p
    pub no_more : (p.refusal ≢ None) ⊎ (AllDone ⊎ NothingMay)

  -- it has ended, and every task is done
  pub record HasSucceeded : Type 0 where
    pub none_begun : NoneBegun p
    pub all_done : AllDone

-- each event may come where the ones before it have led
abbrev pub IsLegalFrom : Planned → Progress → List Event → Type 0
IsLegalFrom x p [] = Unit {0}
IsLegalFrom x p (e ∷ es) = May x p e × IsLegalFrom x (after e p) es

abbrev pub IsLegal : Planned → List Event → Type 0
IsLegal x h = IsLegalFrom x at_opening h
