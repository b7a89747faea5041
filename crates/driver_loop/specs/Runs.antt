-- What a driver's actions have done to the dealer, the seats and the book.
use Rattle.std.specs.Prelude.{◌≡◌, ◌≤◌, ◌||◌, ℕ, Bool, true, false, List, [], ◌∷◌, ◌++◌, Option, None, Some}
use Rattle.arm_edges.specs.Faults.{Rose}
use Rattle.dealer_trait.specs.Steps.{begun}
use Rattle.dealer_trait.specs.declared.book_fault.BookFault.{BookFault}
use Rattle.dealer_trait.specs.declared.book_fault.BookFault.TheVariants.{Full, DiskFault, MustReopen}
use Rattle.dealer_trait.specs.declared.dealer_step.DealerStep.{DealerStep}
use Rattle.driver_loop.specs.Actions.{steps_of, dones_of, hands_of, notes_of, refusals_of}
use Rattle.driver_loop.specs.Courses.{Goes, Resembles}
use Rattle.driver_loop.specs.Moments.{Moment, Pages}
use Rattle.driver_loop.specs.OpenJobs.{open_at, job_at}
use Rattle.driver_loop.specs.declared.action.Action.{Action}
use Rattle.driver_loop.specs.declared.open_job.OpenJob.{OpenJob}
use Rattle.provider_trait.specs.Work.{Work}
use Rattle.foundation.specs.Options.{or_else}

-- the actions are all that was done between two moments to the dealer and the seats
pub record Ran (m m' : Moment) (course : List Action) : Type 0 where
  pub steps : m'.steps ≡ m.steps ++ steps_of course
  pub received : m'.received ≡ m.received ++ dones_of course
  pub sent : (k : ℕ) → m'.sent k ≡ m.sent k ++ hands_of k course
  pub goes : (k : ℕ) → Goes Resembles k (job_at m.opens k) course (job_at m'.opens k)

abbrev pub first_in : List BookFault → Option BookFault
first_in [] = None
first_in (f ∷ rest) = Some f

-- the count of refusals rises exactly where there are some
abbrev pub Rises : ℕ → ℕ → List BookFault → Type 0
Rises before now [] = now ≡ before
Rises before now (f ∷ rest) = (before ≤ now) × Rose before now

abbrev pub is_disk_fault : BookFault → Bool
is_disk_fault (Full length needed) = false
is_disk_fault DiskFault = true
is_disk_fault MustReopen = false

-- a note failed since the disk did
unfoldable pub has_disk_fault : List BookFault → Bool
has_disk_fault [] = false
has_disk_fault (f ∷ rest) = is_disk_fault f || has_disk_fault rest

-- a book that was broken, or not, has refused notes so, one after another, and is broken after them, or not: it breaks
-- where its disk fails, and refuses each note from then on since it must be opened again
unfoldable pub BreaksBy : Bool → List BookFault → Bool → Type 0
BreaksBy was [] is = is ≡ was
BreaksBy was (Full length needed ∷ rest) is = (was ≡ false) × BreaksBy false rest is
BreaksBy was (DiskFault ∷ rest) is = (was ≡ false) × BreaksBy true rest is
BreaksBy was (MustReopen ∷ rest) is = (was ≡ true) × BreaksBy true rest is

-- the actions are all that was done between two moments to the book
pub record Wrote (tells : Bool) (p p' : Pages) (course : List Action) : Type 0 where
  pub report : tells ≡ true → p'.notes ≡ p.notes ++ notes_of course
  pub count : Rises p.refusals p'.refusals (refusals_of course)
  pub first : p'.first ≡ or_else p.first (first_in (refusals_of course))
  -- the count of its disk's faults never fell, and rose where a note failed so
  pub kept : p.faults ≤ p'.faults
  pub rose : has_disk_fault (refusals_of course) ≡ true → Rose p.faults p'.faults
  pub breaks : BreaksBy p.broken (refusals_of course) p'.broken

-- what is known of the open job of a seat
pub record IsRight (steps : List DealerStep) (k : ℕ) (o : OpenJob) : Type 0 where
  pub task : o.task ≡ o.job.value.task
  pub act : o.act ≡ o.job.value.act
  pub worker : o.job.value.worker ≡ k
  pub open_there : begun o.task steps ≡ Some o.job.value

-- the open jobs of the seats are those of the dealer's open Begins
pub record Tied (steps : List DealerStep) (opens : List (Option OpenJob)) : Type 0 where
  pub right : (k : ℕ) (o : OpenJob) → open_at opens k ≡ Some o → IsRight steps k o
  pub all : (task : ℕ) (job : Work) → begun task steps ≡ Some job
      → (job.task ≡ task) × (job_at opens job.worker ≡ Some job)

-- what is kept of an open job is of this one
abbrev pub IsFor : OpenJob → Work → Type 0
IsFor o job = (o.job.value ≡ job) × (o.task ≡ job.task) × (o.act ≡ job.act)
