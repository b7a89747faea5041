-- How a drive ends.
use Rattle.std.specs.Prelude.{◌≡◌, ℕ, Bool, List, [], ◌∷◌, ◌++◌, Option, None, Some}
use Rattle.dealer_trait.specs.Steps.{NoneBegun}
use Rattle.driver_loop.specs.Actions.{first_fault, AreHands, AreTakes, dones_of, hands_of}
use Rattle.driver_loop.specs.Courses.{Goes, Resembles}
use Rattle.driver_loop.specs.Moments.{Moment, Pages}
use Rattle.driver_loop.specs.OpenJobs.{open_at, job_at, IsStray}
use Rattle.driver_loop.specs.Runs.{Ran, Wrote}
use Rattle.driver_loop.specs.declared.action.Action.{Action}
use Rattle.driver_loop.specs.declared.fault.DriveFault.{DriveFault}
use Rattle.driver_loop.specs.declared.fault.DriveFault.TheVariants.{Provider, Book, OutOfMemory}
use Rattle.driver_loop.specs.declared.fault.Ended.{Ended}
use Rattle.driver_loop.specs.declared.fault.Ended.TheVariants.{Well, Failed, Stray}
use Rattle.driver_loop.specs.declared.open_job.OpenJob.{OpenJob}
use Rattle.seat_calls.specs.declared.done.Done.{Done}

-- after the first fault nothing is begun
abbrev pub BeginsNoMore : List Action → Type 0
BeginsNoMore course = (a : List Action) × (b : List Action) × (course ≡ a ++ b) × (first_fault a ≡ None) × AreTakes b

-- a fault of a provider or of the book is the first that the actions show, and without a fault they show none
abbrev pub Blames : Option DriveFault → List Action → Type 0
Blames None course = first_fault course ≡ None
Blames (Some (Provider k)) course = first_fault course ≡ Some (Provider k)
Blames (Some (Book f)) course = first_fault course ≡ Some (Book f)
Blames (Some OutOfMemory) course = Unit {0}

-- no fault, or out of memory
abbrev pub IsNoneOrMemory : Option DriveFault → Type 0
IsNoneOrMemory None = Unit {0}
IsNoneOrMemory (Some (Provider k)) = ⊥
IsNoneOrMemory (Some (Book f)) = ⊥
IsNoneOrMemory (Some OutOfMemory) = Unit {0}

-- nothing is begun after a fault; else jobs may be, and the dealer may be out of memory
abbrev pub Asks : Option DriveFault → Option DriveFault → List Action → Type 0
Asks None new course = AreHands course × IsNoneOrMemory new
Asks (Some f) new course = (course ≡ []) × (new ≡ Some f)

-- the task of the open job of a seat
abbrev pub IsTaskAt : List (Option OpenJob) → ℕ → Option ℕ → Type 0
IsTaskAt opens k None = Unit {0}
IsTaskAt opens k (Some task) = (o : OpenJob) × (open_at opens k ≡ Some o) × (o.task ≡ task)

module _ (tells : Bool) (m m' : Moment) (p p' : Pages) where
  -- the actions are all that was done, and no job is left open
  pub record Closed (fault : Option DriveFault) : Type 0 where
    pub course : List Action
    pub ran : Ran m m' course
    pub wrote : Wrote tells p p' course
    pub ends : BeginsNoMore course
    pub blames : Blames fault course
    pub none : NoneBegun m'.steps
    pub free : (k : ℕ) → open_at m'.opens k ≡ None

-- these actions were done, and then a result came that was of no open job
pub record Strayed (m m' : Moment) : Type 0 where
  pub course : List Action
  pub opens : List (Option OpenJob)
  pub done : Done
  pub stray : IsStray opens done
  pub right : (k : ℕ) (o : OpenJob) → open_at opens k ≡ Some o
      → (o.task ≡ o.job.value.task) × (o.act ≡ o.job.value.act)
  pub received : m'.received ≡ (m.received ++ dones_of course) ++ done ∷ []
  pub sent : (k : ℕ) → m'.sent k ≡ m.sent k ++ hands_of k course
  pub goes : (k : ℕ) → Goes Resembles k (job_at m.opens k) course (job_at opens k)

-- a drive has ended so
abbrev pub Drove : Type 0 → Bool → Moment → Moment → Pages → Pages → Ended → Type 0
Drove end tells m m' p p' Well = end × Closed tells m m' p p' None
Drove end tells m m' p p' (Failed fault) = Closed tells m m' p p' (Some fault)
Drove end tells m m' p p' Stray = Strayed m m'
