-- What a board does when it is asked for a job.
use Rattle.std.specs.Prelude.{◌≡◌, ℕ, List, [], ◌∷◌, ◌++◌, Some, Result, Ok, Err}
use Rattle.std.specs.declared.alloc.AllocError.{AllocError}
use Rattle.arm_value.specs.Json.{Json}
use Rattle.provider_trait.specs.Work.{Work, work_for}
use Rattle.dealer_trait.specs.declared.next.Next.{Next}
use Rattle.dealer_trait.specs.declared.next.Next.TheVariants.{Begun, Wait, End}
use Rattle.deploy_histories.specs.Planned.{Planned}
use Rattle.deploy_histories.specs.Events.{Event, begin, Progress, progress, after, IsBegun, NoneBegun}
use Rattle.deploy_histories.specs.Answers.{IsScopeEvent, IsFirstScope, IsSettled}
use Rattle.deploy_histories.specs.Legal.{May, HasEnded}
use Rattle.deploy_histories.specs.Outcome.{Target, target_of}

-- each of these events enters or leaves a scope, the first in the plan's order that may be then
abbrev pub ArePasses : Planned → Progress → List Event → Type 0
ArePasses x p [] = Unit {0}
ArePasses x p (e ∷ es) = IsFirstScope x p e × ArePasses x (after e p) es

-- scopes were entered and left, each time the first in the plan's order that might be, and nothing else happened
pub record HasPassed (x : Planned) (old new : List Event) : Type 0 where
  pub events : List Event
  pub are_passes : ArePasses x (progress old) events
  pub are : new ≡ old ++ events

-- so scopes were entered and left until none may be, and nothing else happened
pub record HasSettled (x : Planned) (old new : List Event) : Type 0 where
  pub has_passed : HasPassed x old new
  pub is_settled : IsSettled x (progress new)

-- the scope of the task was entered or left, which might be; after an error nothing happened
abbrev pub HasPassedOne : Planned → ℕ → List Event → List Event → Result (Unit {0}) AllocError → Type 0
HasPassedOne x u old new (Ok done) =
    (e : Event) × ((IsScopeEvent u e × May x (progress old) e) × (new ≡ old ++ e ∷ []))
HasPassedOne x u old new (Err f) = new ≡ old

-- the job of the task with this body, which is given to this worker
abbrev pub job_of : Target → ℕ → ℕ → Json → Work
job_of t u worker body =
    work_for t.act (record { api = t.api; body = body; id = t.id; task = u; worker = worker })

-- the job of a task: that of its target
abbrev pub IsJobOf : Planned → ℕ → ℕ → Json → Work → Type 0
IsJobOf x u worker body job = (aim : Target) × ((target_of x u ≡ Some aim) × (job ≡ job_of aim u worker body))

-- no Begin may come
abbrev pub NoneMayBegin : Planned → Progress → Type 0
NoneMayBegin x p = (u worker : ℕ) (body : Json) → May x p (begin u worker body) → ⊥

-- a task was begun after scopes were entered and left, and this is its job
pub record IsBegunAs (x : Planned) (old : List Event) (worker : ℕ) (job : Work) (new : List Event) : Type 0 where
  pub between : List Event
  pub has_settled : HasSettled x old between
  pub begun : new ≡ between ++ begin job.task worker job.body ∷ []
  pub aim : Target
  pub has_aim : target_of x job.task ≡ Some aim
  pub is_job : job ≡ job_of aim job.task worker job.body

-- once no scope may be entered or left any more: a task was begun, and its job is given; or a Begin is open, and no
-- task may begin; or the deployment has ended
abbrev pub IsNext : Planned → List Event → ℕ → Next → List Event → Type 0
IsNext x old worker (Begun job) new = IsBegunAs x old worker job new
IsNext x old worker Wait new =
    HasSettled x old new × (((u : ℕ) × IsBegun (progress new) u) × NoneMayBegin x (progress new))
IsNext x old worker End new = HasSettled x old new × HasEnded x (progress new)

-- the task is begun by the worker with this body, and its job is given
abbrev pub IsStarted : Planned → List Event → ℕ → ℕ → Json → Next → List Event → Type 0
IsStarted x old u worker body (Begun job) new = IsJobOf x u worker body job × (new ≡ old ++ begin u worker body ∷ [])
IsStarted x old u worker body Wait new = ⊥
IsStarted x old u worker body End new = ⊥

-- no job: a Begin is open, or none is
abbrev pub IsPause : Progress → Next → Type 0
IsPause p (Begun job) = ⊥
IsPause p Wait = (u : ℕ) × IsBegun p u
IsPause p End = NoneBegun p
