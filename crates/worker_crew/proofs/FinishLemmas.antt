-- What is known when all seats have come back.
use Rattle.std.proofs.Common.{Bool, true, false, ◌||◌, ◌≡◌, ◌<◌, ◌≤◌, ◌≢◌, ⊎_elim, eqb, leb, ℕ, List, [], ◌∷◌}
use Rattle.std.proofs.Common.{◌++◌, refl, sym, ap, ◌∙◌, subst, Option, None, Some}
use Rattle.std.proofs.lemmas.Bool.Decides.{eqb_tells, leb_tells}
use Rattle.std.specs.Prelude.{Result, Ok, Err}
use Rattle.dealer_trait.specs.declared.book_fault.BookFault.{BookFault}
use Rattle.dealer_trait.specs.declared.dealer_step.DealerStep.{DealerStep}
use Rattle.driver_loop.specs.Actions.{each, first_fault, fault_of, dones_of, hands_of, refusals_of, refused_by}
use Rattle.driver_loop.specs.Courses.{Goes, Resembles}
use Rattle.driver_loop.specs.Ends.{Closed, Strayed, Blames}
use Rattle.driver_loop.specs.Moments.{Moment, moment, Pages}
use Rattle.driver_loop.specs.OpenJobs.{open_at, job_at, job_in}
use Rattle.driver_loop.specs.Runs.{first_in}
use Rattle.driver_loop.specs.declared.action.Action.{Action}
use Rattle.driver_loop.specs.declared.action.Action.TheVariants.{Hand, Take}
use Rattle.driver_loop.specs.declared.fault.DriveFault.{DriveFault}
use Rattle.driver_loop.specs.declared.fault.DriveFault.TheVariants.{Provider, Book}
use Rattle.driver_loop.specs.declared.open_job.OpenJob.{OpenJob}
use Rattle.driver_loop.proofs.StrictLemmas.{no_stray, all_strict}
use Rattle.provider_trait.specs.Work.{Work}
use Rattle.provider_trait.specs.declared.answer.Answer.{Answer}
use Rattle.provider_trait.specs.declared.answer.ProviderFault.{ProviderFault}
use Rattle.provider_trait.specs.declared.answer.ProviderFault.TheVariants.{Fault, OutOfMemory}
use Rattle.seat_calls.specs.Dones.{of, jobs_of, has_failure, is_failure, Answers}
use Rattle.seat_calls.specs.declared.done.Done.{Done}
use Rattle.seat_calls.proofs.DoneLemmas.{of_own, of_other, failure_cons, failure_none}
use Rattle.crew_seating.specs.Closed.{Told, HasNone}
use Rattle.worker_crew.specs.Driven.{Driven}
use Rattle.crew_seating.proofs.BackLemmas.{answers_by, whole_by}
use Rattle.worker_crew.proofs.DealLemmas.{begins_hands, answers_kept, notes_kept, none_after_back}
use Rattle.foundation.specs.Options.{or_else}

failed_or : (got : Result Answer ProviderFault) (r : Option BookFault) (w k : ℕ) (rest : Option DriveFault) (h : Bool)
    → (rest ≡ Some (Provider k) → h ≡ true) → or_else (fault_of w got r) rest ≡ Some (Provider k)
    → (is_failure got || h) ≡ true
failed_or (Ok a) None w k rest h m e = m e
failed_or (Ok a) (Some g) w k rest h m e = cc
failed_or (Err Fault) r w k rest h m e = refl
failed_or (Err OutOfMemory) r w k rest h m e = cc

elsewhere : (got : Result Answer ProviderFault) (r : Option BookFault) (w k : ℕ) (rest : Option DriveFault) → w ≢ k
    → or_else (fault_of w got r) rest ≡ Some (Provider k) → rest ≡ Some (Provider k)
elsewhere (Ok a) None w k rest n e = e
elsewhere (Ok a) (Some g) w k rest n e = cc
elsewhere (Err Fault) r w k rest n e = let same : w ≡ k = cc in absurd (n same)
elsewhere (Err OutOfMemory) r w k rest n e = cc

firsts : (got : Result Answer ProviderFault) (r : Option BookFault) (w : ℕ) (g : BookFault) (rest : Option DriveFault)
    (l : List BookFault) → (rest ≡ Some (Book g) → first_in l ≡ Some g)
    → or_else (fault_of w got r) rest ≡ Some (Book g) → first_in (refused_by got r ++ l) ≡ Some g
firsts (Ok a) None w g rest l m e = m e
firsts (Ok a) (Some x) w g rest l m e = cc
firsts (Err Fault) r w g rest l m e = cc
firsts (Err OutOfMemory) r w g rest l m e = cc

-- the first fault of the book is its first refusal
first_refused : (g : BookFault) (l : List Action) → first_fault l ≡ Some (Book g) → first_in (refusals_of l) ≡ Some g
unfolding first_fault each
first_refused g [] e = cc
first_refused g (Hand j ∷ l) e = first_refused g l e
first_refused g (Take d r ∷ l) e =
    firsts d.got r d.worker g (first_fault l) (refusals_of l) (first_refused g l) e

-- the first fault of a provider is of a call of its seat
seat_failed : (k : ℕ) (l : List Action) → first_fault l ≡ Some (Provider k) → has_failure (of k (dones_of l)) ≡ true
unfolding first_fault each
seat_failed k [] e = cc
seat_failed k (Hand j ∷ l) e = seat_failed k l e
seat_failed k (Take d r ∷ l) e = ⊎_elim
    (λ (x : (eqb d.worker k ≡ true) × (d.worker ≡ k)).
    ap has_failure (of_own k d (dones_of l) x.1) ∙ failure_cons d (of k (dones_of l))
    ∙ failed_or d.got r d.worker k (first_fault l) (has_failure (of k (dones_of l))) (seat_failed k l) e)
    (λ (x : (eqb d.worker k ≡ false) × (d.worker ≢ k)).
    ap has_failure (of_other k d (dones_of l) x.1)
    ∙ seat_failed k l (elsewhere d.got r d.worker k (first_fault l) x.1 e))
    (eqb_tells d.worker k)

no_failure : {A : Type 0} (l : List Done) → l ≡ [] → has_failure l ≡ true → A
no_failure l n e = let b : false ≡ true = sym failure_none ∙ ap has_failure (sym n) ∙ e in cc

module _ (end : Type 0) (tells : Bool) (m : Moment) (s : List DealerStep) (received : List Done)
    (sent q : ℕ → List Work)
    (o : List (Option OpenJob)) (p p' : Pages) (seats : ℕ) (Calls : ℕ → List Done → Type 0) (fresh : m.received ≡ [])
    (unsent : (k : ℕ) → m.sent k ≡ []) (same : (k : ℕ) → sent k ≡ q k) (free : (k : ℕ) → open_at m.opens k ≡ None)
    (did : (k : ℕ) → k < seats → (put : List Done) × Told received (sent k) k put × Calls k put)
    (others : (k : ℕ) → seats ≤ k → HasNone received k) where
  all : Answers seats sent received
  all = answers_by seats sent received (λ k low. let d = did k low in (d.0, d.1)) others

  from : (k : ℕ) (l : List Action) (opens : List (Option OpenJob))
      → Goes Resembles k (job_at m.opens k) l (job_at opens k)
      → Goes Resembles k None l (job_at opens k)
  from k l opens g = subst (λ x. Goes Resembles k x l (job_at opens k)) (ap job_in (free k)) g

  below : (l : List Action) → received ≡ dones_of l → (k : ℕ) → has_failure (of k (dones_of l)) ≡ true → k < seats
  below l is k e = ⊎_elim
      (λ (x : (leb seats k ≡ true) × (seats ≤ k)).
      no_failure (of k (dones_of l)) (ap (of k) (sym is) ∙ others k x.1) e)
      (λ (x : (leb seats k ≡ false) × (k < seats)). x.1)
      (leb_tells seats k)

  pub driven : (fault : Option DriveFault) → Closed tells m (moment s received q o) p p' fault
      → Driven tells m.steps s p p' seats Calls fault
  driven fault x =
      let got : received ≡ dones_of x.course = x.ran.received ∙ ap (λ y. y ++ dones_of x.course) fresh in
      let handed : (k : ℕ) → sent k ≡ hands_of k x.course
      = λ k. same k ∙ x.ran.sent k ∙ ap (λ y. y ++ hands_of k x.course) (unsent k) in
      let strict = all_strict seats x.course received sent got handed
      (λ k.
      subst (λ y. Goes Resembles k None x.course y) (ap job_in (x.free k)) (from k x.course o (x.ran.goes k))) all in
      record {
        course = x.course;
        steps = x.ran.steps;
        wrote = x.wrote;
        ends = x.ends;
        blames = x.blames;
        failed = λ k e.
            let f = seat_failed k x.course (subst (λ y. Blames y x.course) e x.blames) in
            (below x.course got k f, f);
        refused = λ g e. first_refused g x.course (subst (λ y. Blames y x.course) e x.blames);
        calm = none_after_back x.course x.ends;
        answered = answers_kept x.course;
        noted = notes_kept x.course;
        none = x.none;
        worked = λ k low.
            let st = strict k low in
            let d = did k low in
            let put : d.0 ≡ of k received
            = whole_by (sent k) received d.0 k d.1 (handed k ∙ st.1 ∙ ap (λ y. jobs_of (of k y)) (sym got)) in
            record {
              one_at_a_time = st.0;
              all_done = st.1;
              called = subst (λ y. Calls k y) (put ∙ ap (of k) got) d.2;
              begun = begins_hands k x.course ∙ st.1;
            };
        others = λ k high. ap (of k) (sym got) ∙ others k high;
      }

  pub not_strayed : Strayed m (moment s received q o) → ⊥
  not_strayed d =
      no_stray seats d.course d.opens d.done received sent d.stray d.right
      (d.received ∙ ap (λ y. (y ++ dones_of d.course) ++ d.done ∷ []) fresh)
      (λ k. same k ∙ d.sent k ∙ ap (λ y. y ++ hands_of k d.course) (unsent k))
      (λ k. from k d.course d.opens (d.goes k)) all
