-- What the driver's loop keeps.
use Rattle.std.proofs.Common.{◌≡◌, ℕ, Bool, List, [], ◌∷◌, ◌++◌, refl, ap, ◌∙◌, set, Option, None, Some}
use Rattle.dealer_trait.specs.declared.book_fault.BookFault.{BookFault}
use Rattle.driver_loop.specs.Actions.{taken, end_of, fault_by}
use Rattle.driver_loop.specs.Ends.{Asks, Closed, Strayed}
use Rattle.driver_loop.specs.Moments.{Moment, Pages}
use Rattle.driver_loop.specs.OpenJobs.{open_at, IsOfOpenJob, IsStray}
use Rattle.driver_loop.specs.Runs.{Ran, Wrote, Tied}
use Rattle.driver_loop.specs.Turns.{GoesOn}
use Rattle.driver_loop.specs.declared.action.Action.{Action}
use Rattle.driver_loop.specs.declared.fault.DriveFault.{DriveFault}
use Rattle.driver_loop.specs.declared.fault.DriveFault.TheVariants.{OutOfMemory}
use Rattle.driver_loop.proofs.EndLemmas.{knows_none, knows_ask, knows_take, begins_no_more, wrote_more, wrote_hands}
use Rattle.driver_loop.proofs.RunLemmas.{ran_none, ran_more, ran_take}
use Rattle.driver_loop.proofs.TieLemmas.{tied_none}
use Rattle.seat_calls.specs.declared.done.Done.{Done}
use Rattle.foundation.specs.Options.{or_else}

module _ (tells : Bool) (m0 : Moment) (p0 : Pages) where
  -- the free seats were asked for
  pub goes_ask : (m n : Moment) (p : Pages) (fault fault' : Option DriveFault) → GoesOn tells m0 m p0 p fault
      → ((course : List Action) × Asks fault fault' course × Ran m n course) → GoesOn tells m0 n p0 p fault'
  goes_ask m n p fault fault' was ran = (
    was.0 ++ ran.0,
    ran_more m0 m n was.0 ran.0 was.1 ran.2,
    wrote_more tells p0 p p was.0 ran.0 was.2 (wrote_hands tells p fault fault' ran.0 ran.1),
    knows_ask was.0 ran.0 fault fault' was.3 ran.1,
  )

  -- a result of an open job was received and settled
  pub goes_take : (m n : Moment) (p q : Pages) (fault now fault' : Option DriveFault) (d : Done)
      → GoesOn tells m0 m p0 p fault → Tied m.steps m.opens → IsOfOpenJob m.opens d → ((j : ℕ) → n.sent j ≡ m.sent j)
      → n.received ≡ m.received ++ d ∷ [] → n.opens ≡ set m.opens d.worker None
      → ((r : Option BookFault) × (n.steps ≡ m.steps ++ end_of d.job.task d.got r ∷ [])
      × Wrote tells p q (taken d r ∷ []) × (now ≡ fault_by (taken d r)))
      → fault' ≡ or_else fault now → GoesOn tells m0 n p0 q fault'
  goes_take m n p q fault now fault' d was tied of sent received opens settled first = (
    was.0 ++ taken d settled.0 ∷ [],
    ran_more m0 m n was.0 (taken d settled.0 ∷ []) was.1
        (ran_take m n d settled.0 tied of settled.1 received sent opens),
    wrote_more tells p0 p q was.0 (taken d settled.0 ∷ []) was.2 settled.2,
    knows_take was.0 d settled.0 fault now fault' was.3 settled.3 first,
  )

  -- no job is open
  pub closes : (m : Moment) (p : Pages) (fault : Option DriveFault) → GoesOn tells m0 m p0 p fault
      → Tied m.steps m.opens → ((j : ℕ) → open_at m.opens j ≡ None) → Closed tells m0 m p0 p fault
  closes m p fault was tied free = record {
    course = was.0;
    ran = was.1;
    wrote = was.2;
    ends = begins_no_more fault was.0 was.3;
    blames = was.3.6;
    none = tied_none m.steps m.opens tied free;
    free = free;
  }

  -- a result was received of no open job
  pub strays : (m n : Moment) (p : Pages) (fault : Option DriveFault) (d : Done) → GoesOn tells m0 m p0 p fault
      → Tied m.steps m.opens → IsStray m.opens d → ((j : ℕ) → n.sent j ≡ m.sent j)
      → n.received ≡ m.received ++ d ∷ [] → Strayed m0 n
  strays m n p fault d was tied stray sent received = record {
    course = was.0;
    opens = m.opens;
    done = d;
    stray = stray;
    right = λ j o e. let r = tied.right j o e in (r.task, r.act);
    received = received ∙ ap (λ x. x ++ d ∷ []) was.1.received;
    sent = λ j. sent j ∙ was.1.sent j;
    goes = was.1.goes;
  }

  pub goes_first : GoesOn tells m0 m0 p0 p0 None
  goes_first = (
    [],
    ran_none m0,
    wrote_hands tells p0 (Some OutOfMemory) (Some OutOfMemory) [] (refl, refl),
    knows_none,
  )
