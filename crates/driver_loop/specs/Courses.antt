-- The course of one seat: a job is begun where none is open, and a result comes of the job that is open.
use Rattle.std.specs.Prelude.{◌≡◌, ◌≢◌, ℕ, List, [], ◌∷◌, Option, None, Some}
use Rattle.driver_loop.specs.declared.action.Action.{Action}
use Rattle.driver_loop.specs.declared.action.Action.TheVariants.{Hand, Take}
use Rattle.provider_trait.specs.Work.{Work}
use Rattle.seat_calls.specs.declared.done.Done.{Done}

-- a result has the task and the act of a job
abbrev pub Resembles : Done → Work → Type 0
Resembles done job = (done.job.task ≡ job.task) × (done.job.act ≡ job.act)

-- a result is of a job
abbrev pub IsOfJob : Done → Work → Type 0
IsOfJob done job = done.job ≡ job

module _ (Fits : Done → Work → Type 0) (k : ℕ) where
  -- an action takes the seat's open job from this to that: a job is handed to the seat only where none is open, and a
  -- result of the seat fits the job that is open, which then is open no more
  abbrev pub Moves : Option Work → Action → Option Work → Type 0
  Moves o (Hand job) p = (job.worker ≡ k → (o ≡ None) × (p ≡ Some job)) × (job.worker ≢ k → p ≡ o)
  Moves o (Take done refused) p = (done.worker ≡ k → (job : Work) × (o ≡ Some job) × Fits done job × (p ≡ None))
      × (done.worker ≢ k → p ≡ o)

  -- these actions take the seat's open job from this to that
  unfoldable pub Goes : Option Work → List Action → Option Work → Type 0
  Goes o [] p = p ≡ o
  Goes o (x ∷ rest) p = (m : Option Work) × Moves o x m × Goes m rest p
