-- What the driver did while the workers ran.
use Rattle.std.specs.Prelude.{◌≡◌, ℕ, Bool, List, Option}
use Rattle.dealer_trait.specs.declared.dealer_step.DealerStep.{DealerStep}
use Rattle.driver_loop.specs.Ends.{Drove}
use Rattle.driver_loop.specs.Moments.{Moment, moment, Pages}
use Rattle.driver_loop.specs.declared.fault.Ended.{Ended}
use Rattle.driver_loop.specs.declared.open_job.OpenJob.{OpenJob}
use Rattle.provider_trait.specs.Work.{Work}
use Rattle.seat_calls.specs.declared.done.Done.{Done}

-- the driver's loop has ended so, with these steps, these results received and these jobs sent to each seat
abbrev pub HasRunLoop : Type 0 → Bool → Moment → List DealerStep → List Done → (ℕ → List Work) → Pages → Pages → Ended
    → Type 0
HasRunLoop end tells m steps received sent p p' ended = (opens : List (Option OpenJob)) × (all : ℕ → List Work)
    × ((k : ℕ) → sent k ≡ all k) × Drove end tells m (moment steps received all opens) p p' ended
