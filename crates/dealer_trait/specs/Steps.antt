-- The steps of a dealer: what it has begun, what was answered, and what was given back.
use Rattle.std.specs.Prelude.{◌≡◌, ℕ, ◌==◌, if◌then◌else◌, List, [], ◌∷◌, ◌++◌, Option, None, Some, Result, Ok, Err}
use Rattle.std.specs.declared.alloc.AllocError.{AllocError}
use Rattle.provider_trait.specs.Answer.{Suits}
use Rattle.provider_trait.specs.Work.{Work}
use Rattle.provider_trait.specs.declared.answer.Answer.{Answer}
use Rattle.dealer_trait.specs.declared.dealer_step.DealerStep.{DealerStep}
use Rattle.dealer_trait.specs.declared.dealer_step.DealerStep.TheVariants.{Begin, Answer as Answered, Back}
use Rattle.dealer_trait.specs.declared.next.Next.{Next}
use Rattle.dealer_trait.specs.declared.next.Next.TheVariants.{Begun, Wait, End}

-- a job is begun
abbrev pub begin : Work → DealerStep
begin job = Begin job

-- the job that was begun of the task has this answer
abbrev pub answered : ℕ → Answer → DealerStep
answered task answer = Answered task answer

-- the job that was begun of the task has no answer
abbrev pub given_back : ℕ → DealerStep
given_back task = Back task

-- the job of the task's open Begin after a step, where before the step it was this
abbrev pub begun_after : ℕ → Option Work → DealerStep → Option Work
begun_after task was (Begin job) = if job.task == task then Some job else was
begun_after task was (Answered other answer) = if other == task then None else was
begun_after task was (Back other) = if other == task then None else was

-- the same after these steps
unfoldable pub begun_from : ℕ → Option Work → List DealerStep → Option Work
begun_from task was [] = was
begun_from task was (step ∷ rest) = begun_from task (begun_after task was step) rest

-- the job of the task's open Begin
abbrev pub begun : ℕ → List DealerStep → Option Work
begun task steps = begun_from task None steps

-- a Begin of the task is open
abbrev pub IsBegun : ℕ → List DealerStep → Type 0
IsBegun task steps = (job : Work) × (begun task steps ≡ Some job)

-- no Begin is open
abbrev pub NoneBegun : List DealerStep → Type 0
NoneBegun steps = (task : ℕ) → begun task steps ≡ None

-- a Begin of the task is open, and the answer suits what its job asks for
abbrev pub MayAnswer : ℕ → Answer → List DealerStep → Type 0
MayAnswer task answer steps = (job : Work) × (begun task steps ≡ Some job) × Suits job.act answer

-- a dealer that was asked for this worker has begun a job of the worker, of a task of which no Begin was open; or it
-- has added no step
abbrev pub AsksFor : ℕ → List DealerStep → List DealerStep → Result Next AllocError → Type 0
AsksFor worker old new (Ok (Begun job)) = (job.worker ≡ worker) × (begun job.task old ≡ None)
    × (new ≡ old ++ begin job ∷ [])
AsksFor worker old new (Ok Wait) = new ≡ old
AsksFor worker old new (Ok End) = new ≡ old
AsksFor worker old new (Err e) = new ≡ old

-- where a dealer answers End, this holds
abbrev pub HasEnd : Type 0 → Result Next AllocError → Type 0
HasEnd end (Ok (Begun job)) = Unit {0}
HasEnd end (Ok Wait) = Unit {0}
HasEnd end (Ok End) = end
HasEnd end (Err e) = Unit {0}
