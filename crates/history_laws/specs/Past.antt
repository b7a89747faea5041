-- What a history says of the past of each task: that it was ready.
use Rattle.std.specs.Prelude.{◌≡◌, ℕ, List, Option, Some, None, slice_get}
use Rattle.arm_value.specs.Json.{Json}
use Rattle.provider_trait.specs.declared.act.Act.{Act}
use Rattle.provider_trait.specs.declared.answer.Answer.{Answer}
use Rattle.provider_trait.specs.declared.answer.Answer.TheVariants.{Stored}
use Rattle.deploy_histories.specs.Known.{Table}
use Rattle.deploy_histories.specs.Tasks.{Task, enter, leave, put, delete}
use Rattle.deploy_histories.specs.Planned.{Planned}
use Rattle.deploy_histories.specs.Events.{Status, is_begun, is_done, Progress}
use Rattle.deploy_histories.specs.Points.{IsKnownThen}
use Rattle.deploy_histories.specs.Readiness.{IsReadyWith}
use Rattle.deploy_histories.specs.Legal.{IsAct}
use Rattle.deploy_histories.specs.Outcome.{MayAnswer, IsGivenTo, target}

-- what is done in the first is done in the second, with the same state
abbrev pub StaysDone : (ℕ → Status) → (ℕ → Status) → Type 0
StaysDone f g = (v : ℕ) (o : Option Json) → f v ≡ is_done o → g v ≡ is_done o

-- the task was ready with the body, when no more than now was done
pub record WasReady (x : Planned) (f : ℕ → Status) (u : ℕ) (t : Task) (body : Json) : Type 0 where
  pub earlier : Progress
  pub known : Table
  pub is_known : IsKnownThen x earlier known
  pub is_ready : IsReadyWith x known earlier u t body
  pub stays : StaysDone earlier.status f

-- what is left of a task that is done: of a put the state, which a provider may have answered
abbrev pub IsLeft : MayAnswer → Planned → Task → Json → Option Json → Type 0
IsLeft may x (put p s) body o = (j : Json) × ((o ≡ Some j) × IsGivenTo may (target x (put p s)) body (Stored j))
IsLeft may x (delete k) body o = o ≡ None
IsLeft may x (enter p) body o = o ≡ None
IsLeft may x (leave p) body o = o ≡ None

pub record IsBegunAs (x : Planned) (f : ℕ → Status) (u : ℕ) (body : Json) : Type 0 where
  pub task : Task
  pub is_task : slice_get x.tasks u ≡ Some task
  pub is_act : IsAct task
  pub was_ready : WasReady x f u task body

pub record IsDoneAs (may : MayAnswer) (x : Planned) (f : ℕ → Status) (u : ℕ) (o : Option Json) : Type 0 where
  pub task : Task
  pub is_task : slice_get x.tasks u ≡ Some task
  pub body : Json
  pub was_ready : WasReady x f u task body
  pub is_left : IsLeft may x task body o

-- each task of which a Begin is open was ready with its body, and so was each that is done
pub record IsKept (may : MayAnswer) (x : Planned) (f : ℕ → Status) : Type 0 where
  pub begun : (u w : ℕ) (body : Json) → f u ≡ is_begun w body → IsBegunAs x f u body
  pub done : (u : ℕ) (o : Option Json) → f u ≡ is_done o → IsDoneAs may x f u o

-- providers may give one answer to each act on an id with a version and a body
abbrev pub OneAnswer : MayAnswer → Type 0
OneAnswer may = (act : Act) (id api : List ℕ) (body : Json) (a b : Answer) → may act id api body a
    → may act id api body b → a ≡ b
