-- What a scripted dealer deals.
use Rattle.std.specs.Prelude.{◌≡◌, ◌<◌, ◌⊎◌, ℕ, true, false, List, [], ◌∷◌, ◌++◌, length, slice_get, Some, Result, Ok}
use Rattle.std.specs.Prelude.{Err}
use Rattle.std.specs.declared.alloc.AllocError.{AllocError}
use Rattle.std.specs.declared.alloc.Global.{Global}
use Rattle.std.specs.declared.vec.Vec.{Vec}
use Rattle.provider_trait.specs.Work.{Work, work_for}
use Rattle.dealer_trait.specs.Steps.{begin, IsBegun, NoneBegun}
use Rattle.dealer_trait.specs.declared.dealer_step.DealerStep.{DealerStep}
use Rattle.dealer_trait.specs.declared.next.Next.{Next}
use Rattle.dealer_trait.specs.declared.next.Next.TheVariants.{Begun, Wait, End}
use Rattle.driver_fakes.specs.Needs.{needs_at}
use Rattle.driver_fakes.specs.Stages.{is_ready, has_refusal}

-- the job as that of this task and this worker
abbrev pub dealt : Work → ℕ → ℕ → Work
dealt job task worker =
    work_for job.act
    (record { api = job.api; body = job.body; id = job.id; task = task; worker = worker })

-- what a dealer deals by: the job of each task, what each task needs, and the steps so far
pub record Hand : Type 0 where
  pub jobs : List Work
  pub needs : List (Vec ℕ Global)
  pub steps : List DealerStep

-- whether the task of this number may begin
abbrev pub may_begin : Hand → ℕ → Type 0
may_begin h task = is_ready (needs_at h.needs task) task h.steps ≡ true

abbrev pub may_not_begin : Hand → ℕ → Type 0
may_not_begin h task = is_ready (needs_at h.needs task) task h.steps ≡ false

-- the least task that may begin
pub record IsLeast (h : Hand) (task : ℕ) : Type 0 where
  pub within : task < length h.jobs
  pub ready : may_begin h task
  pub least : (other : ℕ) → other < task → may_not_begin h other

-- no task may begin
abbrev pub NoneReady : Hand → Type 0
NoneReady h = (task : ℕ) → task < length h.jobs → may_not_begin h task

-- nothing is begun any more: something was refused, or no task may begin
abbrev pub IsOver : Hand → Type 0
IsOver h = (has_refusal h.steps ≡ true) ⊎ NoneReady h

-- the job of this task, dealt to this worker
abbrev pub IsDealt : Hand → ℕ → ℕ → Work → Type 0
IsDealt h task worker job = (origin : Work) × (slice_get h.jobs task ≡ Some origin) × (job ≡ dealt origin task worker)

-- what is answered to a worker that asks: the job of the least task that may begin, where nothing was refused; else
-- Wait while a Begin is open, and End while none is
abbrev pub Deals : Hand → ℕ → Result Next AllocError → Type 0
Deals h worker (Ok (Begun job)) =
    (has_refusal h.steps ≡ false) × ((task : ℕ) × IsLeast h task × IsDealt h task worker job)
Deals h worker (Ok Wait) = ((task : ℕ) × IsBegun task h.steps) × IsOver h
Deals h worker (Ok End) = NoneBegun h.steps × IsOver h
Deals h worker (Err e) = Unit {0}

-- the end: no Begin is open, and nothing is begun any more
abbrev pub HasEnded : Hand → Type 0
HasEnded h = NoneBegun h.steps × IsOver h

-- what is answered where nothing is begun: Wait while a Begin is open, and End while none is
abbrev pub Pauses : Hand → Next → Type 0
Pauses h (Begun job) = ⊥
Pauses h Wait = (task : ℕ) × IsBegun task h.steps
Pauses h End = NoneBegun h.steps

-- the hand with one step more
abbrev pub with_step : Hand → DealerStep → Hand
with_step h step = record { jobs = h.jobs; needs = h.needs; steps = h.steps ++ step ∷ [] }

-- the task was begun for this worker, or nothing was done
abbrev pub Begins : Hand → Hand → ℕ → ℕ → Result Next AllocError → Type 0
Begins old new task worker (Ok (Begun job)) = IsDealt old task worker job × (new ≡ with_step old (begin job))
Begins old new task worker (Ok Wait) = ⊥
Begins old new task worker (Ok End) = ⊥
Begins old new task worker (Err e) = new ≡ old

-- the jobs and the needs are unchanged
pub record Keeps (old new : Hand) : Type 0 where
  pub jobs : new.jobs ≡ old.jobs
  pub needs : new.needs ≡ old.needs
