-- What a driver sees at one moment.
use Rattle.std.specs.Prelude.{ℕ, Bool, List, Option}
use Rattle.dealer_trait.specs.declared.book_fault.BookFault.{BookFault}
use Rattle.dealer_trait.specs.declared.dealer_step.DealerStep.{DealerStep}
use Rattle.dealer_trait.specs.declared.note.Note.{Note}
use Rattle.driver_loop.specs.declared.open_job.OpenJob.{OpenJob}
use Rattle.provider_trait.specs.Work.{Work}
use Rattle.seat_calls.specs.declared.done.Done.{Done}

-- the dealer's steps, what was received of the seats, the jobs that each was sent, and the open job of each
pub record Moment : Type 0 where
  pub steps : List DealerStep
  pub received : List Done
  pub sent : ℕ → List Work
  pub opens : List (Option OpenJob)

abbrev pub moment : List DealerStep → List Done → (ℕ → List Work) → List (Option OpenJob) → Moment
moment steps received sent opens = record { steps = steps; received = received; sent = sent; opens = opens }

-- the notes of the book, how many it has refused, its first refusal, how often its disk has failed, and whether a note
-- has failed so
pub record Pages : Type 0 where
  pub notes : List Note
  pub refusals : ℕ
  pub first : Option BookFault
  pub faults : ℕ
  pub broken : Bool

-- what a book of this kind shows
abbrev pub pages : {B : Type 0} → (B → List Note) → (B → ℕ) → (B → Option BookFault) → (B → ℕ) → (B → Bool) → B → Pages
pages notes refusals first faults broken book = record {
  notes = notes book;
  refusals = refusals book;
  first = first book;
  faults = faults book;
  broken = broken book;
}
