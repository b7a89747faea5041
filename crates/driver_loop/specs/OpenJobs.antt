-- The open jobs of the seats.
use Rattle.std.specs.Prelude.{◌≡◌, ℕ, ◌<◌, List, length, Option, None, Some, slice_index_or}
use Rattle.dealer_trait.specs.Steps.{begun}
use Rattle.dealer_trait.specs.declared.dealer_step.DealerStep.{DealerStep}
use Rattle.driver_loop.specs.declared.open_job.OpenJob.{OpenJob}
use Rattle.provider_trait.specs.Work.{Work}
use Rattle.seat_calls.specs.declared.done.Done.{Done}

-- what is open at a seat
abbrev pub open_at : List (Option OpenJob) → ℕ → Option OpenJob
open_at opens k = slice_index_or opens k None

abbrev pub job_in : Option OpenJob → Option Work
job_in None = None
job_in (Some o) = Some o.job.value

-- the open job of a seat
abbrev pub job_at : List (Option OpenJob) → ℕ → Option Work
job_at opens k = job_in (open_at opens k)

-- a result is of its seat's open job, by task and act
abbrev pub IsOfOpenJob : List (Option OpenJob) → Done → Type 0
IsOfOpenJob opens done = (done.worker < length opens) × (o : OpenJob) × (open_at opens done.worker ≡ Some o)
    × (o.task ≡ done.job.task) × (o.act ≡ done.job.act)

-- a result is of another job than its seat's open job, or its seat has none
abbrev pub IsStray : List (Option OpenJob) → Done → Type 0
IsStray opens done = (o : OpenJob) → open_at opens done.worker ≡ Some o → o.task ≡ done.job.task
    → o.act ≡ done.job.act → ⊥

-- a Begin of the result's task is open, of a job with its act
abbrev pub IsOpenFor : List DealerStep → Done → Type 0
IsOpenFor steps done = (job : Work) × (begun done.job.task steps ≡ Some job) × (job.act ≡ done.job.act)
