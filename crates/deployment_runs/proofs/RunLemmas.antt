-- What a drive has done is what running a deployment has done, where the board had no steps before.
use Rattle.std.proofs.Common.{◌≡◌, ◌<◌, ◌≤◌, ℕ, Bool, false, List, [], length, Option, None, Some, Result, Ok, Err, refl, sym, subst, arith}
use Rattle.dealer_trait.specs.Steps.{NoneBegun, begun, begun_from}
use Rattle.dealer_trait.specs.declared.dealer_step.DealerStep.{DealerStep}
use Rattle.driver_loop.specs.Actions.{dones_of}
use Rattle.driver_loop.specs.Moments.{Pages}
use Rattle.driver_loop.specs.declared.fault.DriveFault.{DriveFault}
use Rattle.seat_calls.specs.Dones.{of, jobs_of}
use Rattle.seat_calls.specs.declared.done.Done.{Done}
use Rattle.seat_calls.specs.declared.seat.Seat.{Seat}
use Rattle.arm_edges.specs.Faults.{Rose}
use Rattle.worker_crew.specs.Deals.{begins, answers, answers_to, kept, BeginsNoneAfterBack}
use Rattle.worker_crew.specs.Driven.{Driven, CallsOf, HasDriven}
use Rattle.deployment_runs.specs.Runs.{HasRun}

-- without steps no Begin is open
none : NoneBegun []
unfolding begun_from
none task = refl

pub none_of_none : (ss : List DealerStep) → ss ≡ [] → NoneBegun ss
none_of_none ss e = subst NoneBegun (sym e) none

-- a book that has refused nothing, and counts nothing, has not been blamed
pub never_refuses : Rose 0 0 → ⊥
never_refuses h = absurd (omega (arith, h))

module _ {P : Type 0} (made : P → P → List Done → Type 0) (end : Type 0) (s' : List DealerStep) (p p' : Pages)
    (old new : List (Seat P)) where
  run_of : (fault : Option DriveFault) → length new ≡ length old
      → Driven false [] s' p p' (length old) (CallsOf made end false [] s' p p' old new) fault → HasRun made s' old new
  run_of fault same d = record {
    course = d.course;
    steps_are = d.steps;
    length_same = same;
    calls = λ k low. (d.worked k low).called;
    one_at_a_time = λ k low. (d.worked k low).one_at_a_time;
    others = d.others;
    begun = λ k low. subst (λ ss. begins k ss ≡ jobs_of (of k (dones_of d.course))) (sym d.steps) (d.worked k low).begun;
    answered = subst (λ ss. answers ss ≡ answers_to (kept d.course)) (sym d.steps) d.answered;
    calm = subst BeginsNoneAfterBack (sym d.steps) d.calm;
    none = d.none;
  }

  pub has_run : (r : Result (Unit {0}) DriveFault) → HasDriven made end false [] s' p p' old new r
      → HasRun made s' old new
  has_run (Ok u) h = run_of None h.0 h.2
  has_run (Err f) h = run_of (Some f) h.0 h.1

  pub run_by : (s : List DealerStep) (r : Result (Unit {0}) DriveFault) → s ≡ []
      → HasDriven made end false s s' p p' old new r → HasRun made s' old new
  run_by s r e h = has_run r (subst (λ ss. HasDriven made end false ss s' p p' old new r) e h)
