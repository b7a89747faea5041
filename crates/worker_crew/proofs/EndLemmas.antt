-- How a drive ends, over the seats of its caller.
use Rattle.std.proofs.Common.{◌≡◌, ◌<◌, ◌≤◌, ℕ, Bool, true, false, List, [], ◌∷◌, ◌++◌, refl, sym, ap, ◌∙◌, subst, length}
use Rattle.std.proofs.Common.{get_or}
use Rattle.std.proofs.Common.{Option, None, Some, Err, append-nil}
use Rattle.std.specs.Prelude.{IfSome}
use Rattle.std.proofs.lemmas.List.{get_or_default}
use Rattle.arm_edges.specs.Faults.{Rose}
use Rattle.crew_workers.specs.declared.post.Station.{Station}
use Rattle.dealer_trait.specs.Steps.{NoneBegun}
use Rattle.dealer_trait.specs.declared.book_fault.BookFault.{BookFault}
use Rattle.dealer_trait.specs.declared.book_fault.BookFault.TheVariants.{Full, DiskFault, MustReopen}
use Rattle.dealer_trait.specs.declared.dealer_step.DealerStep.{DealerStep}
use Rattle.driver_loop.specs.Actions.{step_by, refusals_of, hand_by, dones_of, done_by}
use Rattle.driver_loop.specs.Courses.{IsOfJob}
use Rattle.driver_loop.specs.Moments.{Pages}
use Rattle.driver_loop.specs.declared.fault.DriveFault.{DriveFault}
use Rattle.driver_loop.specs.Runs.{Rises, BreaksBy, first_in, has_disk_fault}
use Rattle.driver_loop.specs.declared.fault.DriveFault.TheVariants.{Provider, Book, OutOfMemory}
use Rattle.driver_loop.specs.declared.fault.Ended.{Ended}
use Rattle.driver_loop.specs.declared.fault.Ended.TheVariants.{Well, Failed, Stray}
use Rattle.driver_loop.proofs.CourseLemmas.{goes_none}
use Rattle.driver_loop.proofs.EachLemmas.{each_none}
use Rattle.driver_loop.proofs.EndLemmas.{knows_none, begins_no_more, wrote_hands}
use Rattle.provider_trait.specs.declared.call.Call.{Call}
use Rattle.seat_calls.specs.Called.{Kind}
use Rattle.seat_calls.specs.Dones.{of, jobs_of, Made}
use Rattle.seat_calls.specs.declared.done.Done.{Done}
use Rattle.seat_calls.specs.declared.seat.Seat.{Seat}
use Rattle.seat_calls.proofs.DoneLemmas.{of_none, jobs_none, made_none}
use Rattle.worker_crew.proofs.DealLemmas.{begins_hands, answers_kept, notes_kept, none_after_back}
use Rattle.worker_crew.specs.Driven.{Driven, HasFinished, HasEnded, HasDriven, CallsAt, CallsOf, HasNoJobs}
use Rattle.worker_crew.specs.Driven.{HasRefused, IsCause}
use Rattle.foundation.specs.Options.{or_else}

-- the same calls, as another condition says them
driven_as : (tells : Bool) (s s' : List DealerStep) (p p' : Pages) (n m : ℕ) (A B : ℕ → List Done → Type 0)
    (fault : Option DriveFault) → n ≡ m → ((k : ℕ) (l : List Done) → k < m → A k l → B k l)
    → Driven tells s s' p p' n A fault → Driven tells s s' p p' m B fault
driven_as tells s s' p p' n m A B fault same turns d = record {
  course = d.course;
  steps = d.steps;
  wrote = d.wrote;
  ends = d.ends;
  blames = d.blames;
  failed = λ k e. let f = d.failed k e in (subst (λ x. k < x) same f.0, f.1);
  refused = d.refused;
  calm = d.calm;
  answered = d.answered;
  noted = d.noted;
  none = d.none;
  worked = λ k low. let w = d.worked k (subst (λ x. k < x) (sym same) low) in record {
    one_at_a_time = w.one_at_a_time;
    all_done = w.all_done;
    called = turns k (of k (dones_of d.course)) low w.called;
    begun = w.begun;
  };
  others = λ k high. d.others k (subst (λ x. x ≤ k) (sym same) high);
}

module _ {P : Type 0} (made : P → P → List Done → Type 0) (end : Type 0) (tells : Bool) (s s' : List DealerStep)
    (p p' : Pages) (stations : List (Station P)) (old new : List (Seat P)) (many : length stations ≡ length old)
    (first : (k : ℕ) (d : Station P) (t : Seat P) → k < length old
    → (get_or stations k d).worker.before.value ≡ (get_or old k t).provider) where
  calls_as : Station P → (k : ℕ) (l : List Done) → k < length old → CallsAt made end tells s s' p p' stations new k l
      → CallsOf made end tells s s' p p' old new k l
  calls_as d k l low h t u = subst (λ x. made x (get_or new k u).provider l) (first k d t low) (h d u)

  -- the seats at their channels are those of the caller
  pub ends_as : Station P → (ended : Ended) → HasFinished made end tells s s' p p' stations new ended
      → HasEnded made end tells s s' p p' old new ended
  ends_as d Well h = (
    h.0 ∙ many,
    h.2,
    driven_as tells s s' p p' (length stations) (length old) (CallsAt made end tells s s' p p' stations new)
        (CallsOf made end tells s s' p p' old new) None many (calls_as d) h.3,
  )
  ends_as d (Failed fault) h = (
    h.0 ∙ many,
    driven_as tells s s' p p' (length stations) (length old) (CallsAt made end tells s s' p p' stations new)
        (CallsOf made end tells s s' p p' old new) (Some fault) many (calls_as d) h.2,
  )
  ends_as d Stray h = h

  pub no_jobs : (ended : Ended) → HasFinished made end tells s s' p p' stations new ended → HasNoJobs new
  no_jobs Well h = h.1
  no_jobs (Failed fault) h = h.1
  no_jobs Stray h = absurd h

-- nothing was done, since memory ran out before
pub driven_none : (tells : Bool) (s : List DealerStep) (p : Pages) (n : ℕ) (Calls : ℕ → List Done → Type 0)
    → NoneBegun s
    → ((k : ℕ) → k < n → Calls k []) → Driven tells s s p p n Calls (Some OutOfMemory)
driven_none tells s p n Calls none calls = record {
  course = [];
  steps = sym (append-nil s) ∙ ap (λ x. s ++ x) (sym (each_none (λ x. step_by x ∷ [])));
  wrote = wrote_hands tells p (Some OutOfMemory) (Some OutOfMemory) [] (refl, refl);
  ends = begins_no_more None [] knows_none;
  blames = tt;
  failed = λ k e. cc;
  refused = λ f e. cc;
  calm = none_after_back [] (begins_no_more None [] knows_none);
  answered = answers_kept [];
  noted = notes_kept [];
  none = none;
  worked = λ k low. record {
    one_at_a_time = goes_none IsOfJob k None;
    all_done =
        each_none (hand_by k) ∙ sym jobs_none ∙ ap jobs_of (sym (of_none k) ∙ ap (of k) (sym (each_none done_by)));
    called = subst (Calls k) (sym (of_none k) ∙ ap (of k) (sym (each_none done_by))) (calls k low);
    begun = begins_hands k [] ∙ each_none (hand_by k) ∙ sym jobs_none
        ∙ ap jobs_of (sym (of_none k) ∙ ap (of k) (sym (each_none done_by)));
  };
  others = λ k high. ap (of k) (each_none done_by) ∙ of_none k;
}

-- the seats are unchanged, since memory ran out before
pub unchanged : {P : Type 0} (may : Kind) (tell : Bool) (calls : P → List Call) (faults : P → ℕ) (end : Type 0)
    (tells : Bool) (s : List DealerStep) (p : Pages) (old : List (Seat P)) → NoneBegun s
    → HasDriven (Made may tell calls faults) end tells s s p p old old (Err OutOfMemory)
unchanged may tell calls faults end tells s p old none = (
  refl,
  driven_none tells s p (length old) (CallsOf (Made may tell calls faults) end tells s s p p old old) none
      (λ k low d t.
      subst (λ x. Made may tell calls faults (get_or old k d).provider x.provider []) (get_or_default old k d t low)
      (made_none may tell calls faults (get_or old k d).provider)),
)

-- the count of faults of a provider that is blamed rose
pub blamed_rose : {P : Type 0} (may : Kind) (tell : Bool) (calls : P → List Call) (faults : P → ℕ) (end : Type 0)
    (tells : Bool) (s s' : List DealerStep) (p p' : Pages) (old new : List (Seat P)) (k : ℕ)
    → HasDriven (Made may tell calls faults) end tells s s' p p' old new (Err (Provider k))
    → (k < length old) × ((t u : Seat P) → Rose (faults (get_or old k t).provider) (faults (get_or new k u).provider))
blamed_rose may tell calls faults end tells s s' p p' old new k h =
    let f = h.1.failed k refl in (f.0, λ t u. ((h.1.worked k f.0).called t u).rose f.1)

stays_broken : (l : List BookFault) (is : Bool) → BreaksBy true l is → is ≡ true
unfolding BreaksBy
stays_broken [] is h = h
stays_broken (Full bytes needed ∷ l) is h = let b : true ≡ false = h.0 in cc
stays_broken (DiskFault ∷ l) is h = let b : true ≡ false = h.0 in cc
stays_broken (MustReopen ∷ l) is h = stays_broken l is h.1

cause : (p p' : Pages) (x : BookFault) (l : List BookFault) → (has_disk_fault (x ∷ l) ≡ true → Rose p.faults p'.faults)
    → BreaksBy p.broken (x ∷ l) p'.broken → IsCause p p' x
unfolding has_disk_fault BreaksBy
cause p p' (Full bytes needed) l rose h = h.0
cause p p' DiskFault l rose h = (h.0, rose refl, stays_broken l p'.broken h.1)
cause p p' MustReopen l rose h = h.0

-- what the refusals of a book show
shown : (p p' : Pages) (l : List BookFault) (f : BookFault) → first_in l ≡ Some f → Rises p.refusals p'.refusals l
    → p'.first ≡ or_else p.first (first_in l) → (has_disk_fault l ≡ true → Rose p.faults p'.faults)
    → BreaksBy p.broken l p'.broken → HasRefused p p' f
shown p p' [] f e r w d b = cc
shown p p' (x ∷ l) f e r w d b = (
  r.1,
  (λ none. w ∙ ap (λ y. or_else y (Some x)) none ∙ e),
  subst (λ (o : Option BookFault). IfSome o (IsCause p p')) e (cause p p' x l d b),
)

-- the book that is blamed has refused a note, and this is its first refusal
pub blamed_refused : {P : Type 0} (made : P → P → List Done → Type 0) (end : Type 0) (tells : Bool)
    (s s' : List DealerStep) (p p' : Pages) (old new : List (Seat P)) (f : BookFault)
    → HasDriven made end tells s s' p p' old new (Err (Book f)) → HasRefused p p' f
blamed_refused made end tells s s' p p' old new f h =
    let w = h.1.wrote in
    shown p p' (refusals_of h.1.course) f (h.1.refused f refl) w.count w.first w.rose w.breaks
