-- What running a deployment has done, by the steps of its board and by its seats.
use Rattle.std.specs.Prelude.{◌≡◌, ◌<◌, ◌≤◌, ℕ, List, [], length, None, Result, Err, slice_index_or}
use Rattle.dealer_trait.specs.Steps.{NoneBegun}
use Rattle.dealer_trait.specs.declared.dealer_step.DealerStep.{DealerStep}
use Rattle.driver_loop.specs.Actions.{steps_of, dones_of}
use Rattle.driver_loop.specs.Courses.{Goes, IsOfJob}
use Rattle.driver_loop.specs.declared.action.Action.{Action}
use Rattle.seat_calls.specs.Dones.{of, jobs_of}
use Rattle.seat_calls.specs.declared.done.Done.{Done}
use Rattle.seat_calls.specs.declared.seat.Seat.{Seat}
use Rattle.worker_crew.specs.Deals.{begins, answers, answers_to, kept, BeginsNoneAfterBack}
use Rattle.deploy_core.specs.declared.ending.Ending.{Ending}
use Rattle.deployment_runs.specs.declared.fault.RunFault.{RunFault}
use Rattle.deployment_runs.specs.declared.fault.RunFault.TheVariants.{Provider}

-- these calls took the provider of the seat k from what it was before to what it is now
abbrev pub AreCallsOf : {P : Type 0} → (P → P → List Done → Type 0) → List (Seat P) → List (Seat P) → ℕ → List Done
    → Type 0
AreCallsOf {P} made old new k dones = (s t : Seat P)
    → made (slice_index_or old k s).provider (slice_index_or new k t).provider dones

-- the steps of a board are those of one course of actions, in which
pub record HasRun {P : Type 0} (made : P → P → List Done → Type 0) (steps : List DealerStep) (old new : List (Seat P))
    : Type 0 where
  pub course : List Action
  pub steps_are : steps ≡ steps_of course
  -- the seats are as many as before, in their order
  pub length_same : length new ≡ length old
  -- the calls of each provider were, in order, the Begins with the number of its seat
  pub calls : (k : ℕ) → k < length old → AreCallsOf made old new k (of k (dones_of course))
  pub begun : (k : ℕ) → k < length old → begins k steps ≡ jobs_of (of k (dones_of course))
  -- each seat has one job at a time, and a result is of the job that it has; no result is of another seat
  pub one_at_a_time : (k : ℕ) → k < length old → Goes IsOfJob k None course None
  pub others : (k : ℕ) → length old ≤ k → of k (dones_of course) ≡ []
  -- each answer is what its call gave, in order
  pub answered : answers steps ≡ answers_to (kept course)
  -- after the first job that was given back none was begun, and no Begin is open
  pub calm : BeginsNoneAfterBack steps
  pub none : NoneBegun steps

-- the provider of the seat k failed
abbrev pub by_seat : ℕ → Result Ending RunFault
by_seat k = Err (Provider k)
