-- What a drive has done.
use Rattle.std.specs.Prelude.{◌≡◌, ◌<◌, ◌≤◌, ℕ, Bool, true, false, List, [], ◌++◌, length, Option, None, Some, Result, Ok, Err}
use Rattle.std.specs.Prelude.{slice_index_or}
use Rattle.arm_edges.specs.Faults.{Rose}
use Rattle.crew_workers.specs.declared.post.Station.{Station}
use Rattle.dealer_trait.specs.Steps.{NoneBegun}
use Rattle.dealer_trait.specs.declared.book_fault.BookFault.{BookFault}
use Rattle.dealer_trait.specs.declared.book_fault.BookFault.TheVariants.{Full, DiskFault, MustReopen}
use Rattle.dealer_trait.specs.declared.dealer_step.DealerStep.{DealerStep}
use Rattle.driver_loop.specs.Actions.{steps_of, dones_of, hands_of, notes_of, refusals_of}
use Rattle.driver_loop.specs.Courses.{Goes, IsOfJob}
use Rattle.driver_loop.specs.Ends.{BeginsNoMore, Blames}
use Rattle.driver_loop.specs.Moments.{Pages}
use Rattle.driver_loop.specs.Runs.{Wrote, first_in}
use Rattle.driver_loop.specs.declared.action.Action.{Action}
use Rattle.driver_loop.specs.declared.fault.DriveFault.{DriveFault}
use Rattle.driver_loop.specs.declared.fault.DriveFault.TheVariants.{Provider, Book}
use Rattle.driver_loop.specs.declared.fault.Ended.{Ended}
use Rattle.driver_loop.specs.declared.fault.Ended.TheVariants.{Well, Failed, Stray}
use Rattle.seat_calls.specs.Dones.{of, jobs_of, has_failure}
use Rattle.seat_calls.specs.declared.done.Done.{Done}
use Rattle.seat_calls.specs.declared.seat.Seat.{Seat}
use Rattle.worker_crew.specs.Deals.{begins, answers, answers_to, notes_to, kept, BeginsNoneAfterBack}

-- what one seat has seen of a course of actions: its jobs were handed to it one at a time, each result is of the job
-- that was handed to it last, and the calls of its provider were made with the jobs that were begun with its number, in
-- order
pub record HasWorked (Calls : List Done → Type 0) (course : List Action) (k : ℕ) : Type 0 where
  pub one_at_a_time : Goes IsOfJob k None course None
  pub all_done : hands_of k course ≡ jobs_of (of k (dones_of course))
  pub called : Calls (of k (dones_of course))
  pub begun : begins k (steps_of course) ≡ jobs_of (of k (dones_of course))

-- one course of actions is all that the dealer, the book and the seats have seen
pub record Driven (tells : Bool) (s s' : List DealerStep) (p p' : Pages) (seats : ℕ) (Calls : ℕ → List Done → Type 0)
    (fault : Option DriveFault) : Type 0 where
  pub course : List Action
  -- the steps of the dealer
  pub steps : s' ≡ s ++ steps_of course
  -- the notes and refusals of the book
  pub wrote : Wrote tells p p' course
  -- after the first fault nothing is begun
  pub ends : BeginsNoMore course
  -- a fault of a provider or of the book is the first, and without a fault the course shows none
  pub blames : Blames fault course
  -- a provider is blamed only where a call of its seat failed
  pub failed : (k : ℕ) → fault ≡ Some (Provider k) → (k < seats) × (has_failure (of k (dones_of course)) ≡ true)
  -- the book is blamed for its first refusal
  pub refused : (f : BookFault) → fault ≡ Some (Book f) → first_in (refusals_of course) ≡ Some f
  -- after the first job that was given back none was begun
  pub calm : BeginsNoneAfterBack (steps_of course)
  -- each answer that the dealer was given is what a call gave and was noted: answers and notes are of these calls, in
  -- order
  pub answered : answers (steps_of course) ≡ answers_to (kept course)
  pub noted : notes_of course ≡ notes_to (kept course)
  -- no Begin is open
  pub none : NoneBegun s'
  -- what each seat has seen
  pub worked : (k : ℕ) → k < seats → HasWorked (Calls k) course k
  -- no result is of another seat
  pub others : (k : ℕ) → seats ≤ k → of k (dones_of course) ≡ []

-- why the book has refused a note: it had no room for it, its disk failed in this call, or it was broken before
abbrev pub IsCause : Pages → Pages → BookFault → Type 0
IsCause p p' (Full bytes needed) = p.broken ≡ false
IsCause p p' DiskFault = (p.broken ≡ false) × Rose p.faults p'.faults × (p'.broken ≡ true)
IsCause p p' MustReopen = p.broken ≡ true

-- the book has refused a note in this call by this cause, and it is its first refusal where it had refused none before
abbrev pub HasRefused : Pages → Pages → BookFault → Type 0
HasRefused p p' f = Rose p.refusals p'.refusals × (p.first ≡ None → p'.first ≡ Some f) × IsCause p p' f

-- the provider of the seat k is blamed
abbrev pub by_seat : ℕ → Result (Unit {0}) DriveFault
by_seat k = Err (Provider k)

-- the book is blamed, with this refusal
abbrev pub by_book : BookFault → Result (Unit {0}) DriveFault
by_book refusal = Err (Book refusal)

-- no seat has a job
abbrev pub HasNoJobs : {P : Type 0} → List (Seat P) → Type 0
HasNoJobs {P} seats = (k : ℕ) (s : Seat P) → k < length seats → (slice_index_or seats k s).job ≡ None

module _ {P : Type 0} (made : P → P → List Done → Type 0) (end : Type 0) (tells : Bool) (s s' : List DealerStep)
    (p p' : Pages) where
  -- the calls that took the provider of the seat k from its first state to its last
  abbrev pub CallsAt : List (Station P) → List (Seat P) → ℕ → List Done → Type 0
  CallsAt old new k dones = (d : Station P) (t : Seat P)
      → made (slice_index_or old k d).worker.before.value (slice_index_or new k t).provider dones

  abbrev pub HasFinished : List (Station P) → List (Seat P) → Ended → Type 0
  HasFinished old new Well = (length new ≡ length old) × HasNoJobs new × end
      × Driven tells s s' p p' (length old) (CallsAt old new) None
  HasFinished old new (Failed fault) = (length new ≡ length old) × HasNoJobs new
      × Driven tells s s' p p' (length old) (CallsAt old new) (Some fault)
  HasFinished old new Stray = ⊥

  -- the calls of the seat k
  abbrev pub CallsOf : List (Seat P) → List (Seat P) → ℕ → List Done → Type 0
  CallsOf old new k dones = (d : Seat P) (t : Seat P)
      → made (slice_index_or old k d).provider (slice_index_or new k t).provider dones

  abbrev pub HasEnded : List (Seat P) → List (Seat P) → Ended → Type 0
  HasEnded old new Well = (length new ≡ length old) × end × Driven tells s s' p p' (length old) (CallsOf old new) None
  HasEnded old new (Failed fault) =
      (length new ≡ length old) × Driven tells s s' p p' (length old) (CallsOf old new) (Some fault)
  HasEnded old new Stray = ⊥

  -- the seats are as many as before, in their order; where all went well the dealer has come to its end
  abbrev pub HasDriven : List (Seat P) → List (Seat P) → Result (Unit {0}) DriveFault → Type 0
  HasDriven old new (Ok u) = (length new ≡ length old) × end
      × Driven tells s s' p p' (length old) (CallsOf old new) None
  HasDriven old new (Err fault) =
      (length new ≡ length old) × Driven tells s s' p p' (length old) (CallsOf old new) (Some fault)
