-- The answers of a history are those that the calls of the seats gave to the jobs that were begun.
use Rattle.std.proofs.Common.{◌≡◌, ◌≢◌, ◌<◌, ◌≤◌, ◌⊎◌, inl, inr, ℕ, ◌==◌, Bool, true, false, true≢false, List, [], ◌∷◌}
use Rattle.std.proofs.Common.{◌++◌, append_assoc, append-nil, Option, Some, None, refl, sym, ap, subst, ◌∙◌, arith}
use Rattle.std.proofs.Common.{eq-eqb, ne_eqb, length, Result, Ok, Err}
use Rattle.std.proofs.lemmas.Bool.{cases_eq, eqb-true}
use Rattle.std.proofs.lemmas.Bool.Decides.{leb_tells}
use Rattle.std.specs.Prelude.{option_map, if◌then◌else◌, IfOk}
use Rattle.arm_value.specs.Json.{Json, null}
use Rattle.dealer_trait.specs.Steps as dealer
use Rattle.dealer_trait.specs.declared.book_fault.BookFault.{BookFault}
use Rattle.dealer_trait.specs.declared.dealer_step.DealerStep.{DealerStep}
use Rattle.provider_trait.specs.Work.{Work}
use Rattle.provider_trait.specs.declared.answer.Answer.{Answer}
use Rattle.provider_trait.specs.declared.answer.Answer.TheVariants.{Stored, Gone, Refused}
use Rattle.provider_trait.specs.declared.answer.ProviderFault.{ProviderFault}
use Rattle.seat_calls.specs.Called.{Kind, MayGive}
use Rattle.seat_calls.specs.Dones.{of, AllMay}
use Rattle.seat_calls.specs.declared.done.Done.{Done}
use Rattle.seat_calls.proofs.DoneLemmas.{of_none, of_own, of_other}
use Rattle.driver_loop.specs.Actions.{each, steps_of, dones_of, end_of}
use Rattle.driver_loop.specs.Courses.{Goes, Moves, IsOfJob}
use Rattle.driver_loop.specs.declared.action.Action.{Action}
use Rattle.driver_loop.specs.declared.action.Action.TheVariants.{Hand, Take}
use Rattle.deploy_histories.specs.Planned.{Planned}
use Rattle.deploy_histories.specs.Events as event
use Rattle.deploy_histories.specs.Events.{Event, Status, is_waiting, is_begun, is_done, Progress, changed, after}
use Rattle.deploy_histories.specs.Events.{after_all, after_answer, at_opening, progress}
use Rattle.deploy_histories.specs.Legal.{IsLegal, IsLegalFrom}
use Rattle.deploy_histories.specs.Outcome.{Target, target_of, IsGivenTo, IsGiven, AreGiven}
use Rattle.history_laws.proofs.Steps.{at_itself, at_other, start_waits}
use Rattle.deploy_core.specs.Boards.{job_of}
use Rattle.deploy_core.specs.Steps as board
use Rattle.deploy_core.specs.Steps.{begins, open_job, steps_after, steps_from, or_later, has_crash, until_crash}

-- ---- what the first action of a course is, by its first step

record Hands (job : Work) (ss : List DealerStep) (l : List Action) : Type 0 where
  rest : List Action
  is : l ≡ Hand job ∷ rest
  others : ss ≡ steps_of rest

hands : (job : Work) (ss : List DealerStep) (l : List Action) → dealer.begin job ∷ ss ≡ steps_of l → Hands job ss l
unfolding each
hands job ss [] e = let f : dealer.begin job ∷ ss ≡ [] = e in absurd (cc)
hands job ss (Hand j ∷ rest) e =
    let f : dealer.begin job ∷ ss ≡ dealer.begin j ∷ steps_of rest = e in
    let same : j ≡ job = cc in
    record { rest = rest; is = ap (λ (w : Work). Hand w ∷ rest) same; others = cc }
hands job ss (Take d r ∷ rest) e = absurd (by d.job.task d.got r e)
  where
    by : (u : ℕ) (got : Result Answer ProviderFault) (q : Option BookFault)
        → dealer.begin job ∷ ss ≡ end_of u got q ∷ steps_of rest → ⊥
    by u (Ok a) None f = let g : dealer.begin job ∷ ss ≡ dealer.answered u a ∷ steps_of rest = f in cc
    by u (Ok a) (Some b) f = let g : dealer.begin job ∷ ss ≡ dealer.given_back u ∷ steps_of rest = f in cc
    by u (Err b) q f = let g : dealer.begin job ∷ ss ≡ dealer.given_back u ∷ steps_of rest = f in cc

record Takes (s : DealerStep) (ss : List DealerStep) (l : List Action) : Type 0 where
  done : Done
  refused : Option BookFault
  rest : List Action
  is : l ≡ Take done refused ∷ rest
  end : end_of done.job.task done.got refused ≡ s
  others : ss ≡ steps_of rest

takes : (s : DealerStep) → ((job : Work) → dealer.begin job ≡ s → ⊥) → (ss : List DealerStep) (l : List Action)
    → s ∷ ss ≡ steps_of l → Takes s ss l
unfolding each
takes s n ss [] e = let f : s ∷ ss ≡ [] = e in absurd (cc)
takes s n ss (Hand j ∷ rest) e =
    let f : s ∷ ss ≡ dealer.begin j ∷ steps_of rest = e in
    let same : dealer.begin j ≡ s = cc in
    absurd (n j same)
takes s n ss (Take d r ∷ rest) e =
    let f : s ∷ ss ≡ end_of d.job.task d.got r ∷ steps_of rest = e in
    let same : end_of d.job.task d.got r ≡ s = cc in
    let more : ss ≡ steps_of rest = cc in
    record { done = d; refused = r; rest = rest; is = refl; end = same; others = more }

answer_no_begin : (u : ℕ) (a : Answer) (job : Work) → dealer.begin job ≡ dealer.answered u a → ⊥
answer_no_begin u a job e = let f : dealer.begin job ≡ dealer.answered u a = e in cc

back_no_begin : (u : ℕ) (job : Work) → dealer.begin job ≡ dealer.given_back u → ⊥
back_no_begin u job e = let f : dealer.begin job ≡ dealer.given_back u = e in cc

answered_by : (u v : ℕ) (a : Answer) (got : Result Answer ProviderFault) (q : Option BookFault)
    → end_of v got q ≡ dealer.answered u a → (v ≡ u) × (got ≡ Ok a)
answered_by u v a (Ok b) None e =
    let f : dealer.answered v b ≡ dealer.answered u a = e in
    let i : v ≡ u = cc in
    let j : b ≡ a = cc in
    (i, ap (λ (c : Answer). Ok c) j)
answered_by u v a (Ok b) (Some r) e = let f : dealer.given_back v ≡ dealer.answered u a = e in absurd (cc)
answered_by u v a (Err b) q e = let f : dealer.given_back v ≡ dealer.answered u a = e in absurd (cc)

back_by : (u v : ℕ) (got : Result Answer ProviderFault) (q : Option BookFault)
    → end_of v got q ≡ dealer.given_back u → v ≡ u
back_by u v (Ok b) None e = let f : dealer.answered v b ≡ dealer.given_back u = e in absurd (cc)
back_by u v (Ok b) (Some r) e = let f : dealer.given_back v ≡ dealer.given_back u = e in cc
back_by u v (Err b) q e = let f : dealer.given_back v ≡ dealer.given_back u = e in cc

-- ---- the open jobs of seats

cons_none : (d : Done) (l : List Done) → d ∷ l ≡ [] → ⊥
cons_none d l e = let f : d ∷ l ≡ [] = e in cc

none_some : (job : Work) → ◌≡◌ {A = Option Work} None (Some job) → ⊥
none_some job e = let f : ◌≡◌ {A = Option Work} None (Some job) = e in cc

abbrev with_job : Work → (ℕ → Option Work) → ℕ → Option Work
with_job j opens k = if j.worker == k then Some j else opens k

abbrev without_job : Done → (ℕ → Option Work) → ℕ → Option Work
without_job d opens k = if d.worker == k then None else opens k

none_may : (may : Kind) → AllMay may []
unfolding AllMay
none_may may = tt

module _ (x : Planned) (may : Kind) (seats : ℕ) where
  abbrev AllGo : (ℕ → Option Work) → List Action → Type 0
  AllGo opens l = (k : ℕ) → k < seats → Goes IsOfJob k (opens k) l None

  abbrev NoOthers : List Action → Type 0
  NoOthers l = (k : ℕ) → seats ≤ k → of k (dones_of l) ≡ []

  abbrev AllFit : List Action → Type 0
  AllFit l = (k : ℕ) → AllMay may (of k (dones_of l))

  -- the open job of a seat is that of an open Begin with its number
  abbrev Agree : (ℕ → Option Work) → (ℕ → Status) → Type 0
  Agree opens f = (k : ℕ) → k < seats → (job : Work) → opens k ≡ Some job
      → (open_job x job.task (f job.task) ≡ Some job) × (job.worker ≡ k)

  -- ---- a job is handed out

  hand_moves : (opens : ℕ → Option Work) (j : Work) (k : ℕ) (m : Option Work)
      → Moves IsOfJob k (opens k) (Hand j) m → m ≡ with_job j opens k
  hand_moves opens j k m mv = elim (cases_eq j.worker k) [
    | inl e ↦ (mv.0 e).1 ∙ sym (ap (λ (b : Bool). if b then Some j else opens k) (eq-eqb j.worker k e))
    | inr n ↦ mv.1 n ∙ sym (ap (λ (b : Bool). if b then Some j else opens k) (ne_eqb j.worker k n))
  ]

  hand_goes : (opens : ℕ → Option Work) (j : Work) (l : List Action) → AllGo opens (Hand j ∷ l)
      → AllGo (with_job j opens) l
  unfolding Goes
  hand_goes opens j l g k low =
      subst (λ (o : Option Work). Goes IsOfJob k o l None) (hand_moves opens j k (g k low).0 (g k low).1) (g k low).2

  hand_others : (j : Work) (l : List Action) → NoOthers (Hand j ∷ l) → NoOthers l
  unfolding each
  hand_others j l n = n

  hand_fits : (j : Work) (l : List Action) → AllFit (Hand j ∷ l) → AllFit l
  unfolding each
  hand_fits j l n = n

  -- ---- a result comes in

  take_moves : (opens : ℕ → Option Work) (d : Done) (r : Option BookFault) (k : ℕ) (m : Option Work)
      → Moves IsOfJob k (opens k) (Take d r) m → m ≡ without_job d opens k
  take_moves opens d r k m mv = elim (cases_eq d.worker k) [
    | inl e ↦ (mv.0 e).3 ∙ sym (ap (λ (b : Bool). if b then None else opens k) (eq-eqb d.worker k e))
    | inr n ↦ mv.1 n ∙ sym (ap (λ (b : Bool). if b then None else opens k) (ne_eqb d.worker k n))
  ]

  take_goes : (opens : ℕ → Option Work) (d : Done) (r : Option BookFault) (l : List Action)
      → AllGo opens (Take d r ∷ l) → AllGo (without_job d opens) l
  unfolding Goes
  take_goes opens d r l g k low =
      subst (λ (o : Option Work). Goes IsOfJob k o l None) (take_moves opens d r k (g k low).0 (g k low).1) (g k low).2

  -- the open job of the seat is that of the result
  take_job : (opens : ℕ → Option Work) (d : Done) (r : Option BookFault) (l : List Action) → d.worker < seats
      → AllGo opens (Take d r ∷ l) → opens d.worker ≡ Some d.job
  unfolding Goes
  take_job opens d r l low g =
      let mv = (g d.worker low).1.0 refl in mv.1 ∙ ap (λ (w : Work). Some w) (sym mv.2)

  take_low : (d : Done) (r : Option BookFault) (l : List Action) → NoOthers (Take d r ∷ l) → d.worker < seats
  unfolding each
  take_low d r l n = elim (leb_tells seats d.worker) [
    | inl h ↦ absurd (cons_none d (of d.worker (dones_of l))
        (sym (of_own d.worker d (dones_of l) refl) ∙ n d.worker h.1))
    | inr h ↦ h.1
  ]

  take_others : (d : Done) (r : Option BookFault) (l : List Action) → NoOthers (Take d r ∷ l) → NoOthers l
  unfolding each
  take_others d r l n k high = elim (cases_eq d.worker k) [
    | inl e ↦ absurd (cons_none d (of k (dones_of l)) (sym (of_own k d (dones_of l) e) ∙ n k high))
    | inr m ↦ sym (of_other k d (dones_of l) m) ∙ n k high
  ]

  take_fits : (d : Done) (r : Option BookFault) (l : List Action) → AllFit (Take d r ∷ l) → AllFit l
  unfolding each AllMay
  take_fits d r l n k = elim (cases_eq d.worker k) [
    | inl e ↦ (subst (AllMay may) (of_own k d (dones_of l) e) (n k)).1
    | inr m ↦ subst (AllMay may) (of_other k d (dones_of l) m) (n k)
  ]

  take_fit : (d : Done) (r : Option BookFault) (l : List Action) → AllFit (Take d r ∷ l)
      → IfOk d.got (MayGive may d.job)
  unfolding each AllMay
  take_fit d r l n = (subst (AllMay may) (of_own d.worker d (dones_of l) refl) (n d.worker)).0

  -- ---- the open jobs are those of the open Begins

  keeps : (opens : ℕ → Option Work) (f : ℕ → Status) (u : ℕ) (st : Status) → open_job x u (f u) ≡ None
      → Agree opens f → Agree opens (changed u st f)
  keeps opens f u st free all k low job e = (
    elim (cases_eq job.task u) [
      | inl i ↦ absurd (none_some job (sym free ∙ subst (λ (n : ℕ). open_job x n (f n) ≡ Some job) i (all k low job e).0))
      | inr n ↦ ap (open_job x job.task) (at_other u st f job.task n) ∙ (all k low job e).0
    ],
    (all k low job e).1,
  )

  hands_agree : (opens : ℕ → Option Work) (f : ℕ → Status) (u w : ℕ) (b : Json) (aim : Target)
      → target_of x u ≡ Some aim → open_job x u (f u) ≡ None → Agree opens f
      → Agree (with_job (job_of aim u w b) opens) (changed u (is_begun w b) f)
  hands_agree opens f u w b aim t free all k low job e = by (w == k) refl
    where
      j : Work
      j = job_of aim u w b

      its : open_job x u (changed u (is_begun w b) f u) ≡ Some j
      its = ap (open_job x u) (at_itself u (is_begun w b) f) ∙ ap (option_map (λ a. job_of a u w b)) t

      by : (c : Bool) → (w == k) ≡ c → (open_job x job.task (changed u (is_begun w b) f job.task) ≡ Some job)
          × (job.worker ≡ k)
      by true c =
          let same : Some j ≡ Some job
          = sym (ap (λ (b : Bool). if b then Some j else opens k) c) ∙ e in
          let is : j ≡ job = cc in (
            subst (λ (i : Work). open_job x i.task (changed u (is_begun w b) f i.task) ≡ Some i) is its,
            ap (λ (i : Work). i.worker) (sym is) ∙ eqb-true w k c,
          )
      by false c =
          keeps opens f u (is_begun w b) free all k low job
          (sym (ap (λ (b : Bool). if b then Some j else opens k) c) ∙ e)

  takes_agree : (opens : ℕ → Option Work) (f : ℕ → Status) (d : Done) (st : Status) → d.worker < seats
      → opens d.worker ≡ Some d.job → Agree opens f → Agree (without_job d opens) (changed d.job.task st f)
  takes_agree opens f d st there o all k low job e = by (d.worker == k) refl
    where
      by : (c : Bool) → (d.worker == k) ≡ c
          → (open_job x job.task (changed d.job.task st f job.task) ≡ Some job) × (job.worker ≡ k)
      by true c =
          absurd (none_some job (sym (ap (λ (b : Bool). if b then None else opens k) c) ∙ e))
      by false c =
          let mine = all k low job (sym (ap (λ (b : Bool). if b then None else opens k) c) ∙ e) in
          let own = all d.worker there d.job o in (
            elim (cases_eq job.task d.job.task) [
              | inl i ↦
                  let same : Some job ≡ Some d.job
                  = sym (subst (λ (n : ℕ). open_job x n (f n) ≡ Some job) i mine.0) ∙ own.0 in
                  let is : job ≡ d.job = cc in
                  let at : d.worker ≡ k = sym own.1 ∙ ap (λ (w : Work). w.worker) (sym is) ∙ mine.1 in
                  absurd (true≢false (sym (eq-eqb d.worker k at) ∙ c))
              | inr n ↦ ap (open_job x job.task) (at_other d.job.task st f job.task n) ∙ mine.0
            ],
            mine.1,
          )

  -- ---- the answers

  given_to : (u w : ℕ) (b : Json) (a : Answer) (job : Work) (o : Option Target)
      → option_map (λ aim. job_of aim u w b) o ≡ Some job → MayGive may job a → IsGivenTo may o b a
  given_to u w b a job None e m = tt
  given_to u w b a job (Some aim) e m =
      let f : Some (job_of aim u w b) ≡ Some job = e in
      let is : job ≡ job_of aim u w b = cc in
      subst (λ (j : Work). MayGive may j a) is m

  may_of : (job : Work) (a : Answer) (got : Result Answer ProviderFault) → got ≡ Ok a → IfOk got (MayGive may job)
      → MayGive may job a
  may_of job a got e m = subst (λ (g : Result Answer ProviderFault). IfOk g (MayGive may job)) e m

  -- the steps of events without a crash
  abbrev more : List Event → List DealerStep
  more [] = []
  more (event.enter u ∷ es) = more es
  more (event.begin u w b ∷ es) = begins (open_job x u (is_begun w b)) ++ more es
  more (event.answer u a ∷ es) = dealer.answered u a ∷ more es
  more (event.back u ∷ es) = dealer.given_back u ∷ more es
  more (event.leave u ∷ es) = more es
  more (event.crash ∷ es) = more es

  more_is : (ss : List DealerStep) (es : List Event) → has_crash es ≡ false → steps_from x ss es ≡ ss ++ more es
  more_is ss [] e = sym (append-nil ss)
  more_is ss (event.enter u ∷ es) e = more_is ss es e
  more_is ss (event.begin u w b ∷ es) e =
      more_is (ss ++ begins (open_job x u (is_begun w b))) es e
      ∙ append_assoc ss (begins (open_job x u (is_begun w b))) (more es)
  more_is ss (event.answer u a ∷ es) e =
      more_is (ss ++ dealer.answered u a ∷ []) es e ∙ append_assoc ss (dealer.answered u a ∷ []) (more es)
  more_is ss (event.back u ∷ es) e =
      more_is (ss ++ dealer.given_back u ∷ []) es e ∙ append_assoc ss (dealer.given_back u ∷ []) (more es)
  more_is ss (event.leave u ∷ es) e = more_is ss es e
  more_is ss (event.crash ∷ es) e = absurd (true≢false e)

  -- what is known of the rest of a course
  record Rest (opens : ℕ → Option Work) (l : List Action) : Type 0 where
    go : AllGo opens l
    others : NoOthers l
    fit : AllFit l

  answer_status : (u : ℕ) (a : Answer) (p : Progress)
      → (st : Status) × ((after_answer u a p).status ≡ changed u st p.status)
  answer_status u (Stored j) p = (is_done (Some j), refl)
  answer_status u Gone p = (is_done None, refl)
  answer_status u (Refused code) p = (is_waiting, refl)

  waits : (p : Progress) (u : ℕ) → p.status u ≡ is_waiting → open_job x u (p.status u) ≡ None
  waits p u e = ap (open_job x u) e

  -- after a Begin the rest goes on
  begun_given : (es : List Event) (opens : ℕ → Option Work) (l : List Action) (p : Progress) (u w : ℕ) (b : Json)
      (o : Option Target) → target_of x u ≡ o → p.status u ≡ is_waiting
      → ((opens : ℕ → Option Work) (l : List Action) → more es ≡ steps_of l → Rest opens l
      → Agree opens (after (event.begin u w b) p).status → AreGiven may x (after (event.begin u w b) p) es)
      → begins (option_map (λ aim. job_of aim u w b) o) ++ more es ≡ steps_of l → Rest opens l
      → Agree opens p.status → AreGiven may x (after (event.begin u w b) p) es
  begun_given es opens l p u w b None t free goes_on e r all =
      goes_on opens l e r (keeps opens p.status u (is_begun w b) (waits p u free) all)
  begun_given es opens l p u w b (Some aim) t free goes_on e r all =
      let h = hands (job_of aim u w b) (more es) l e in
      let rest = subst (Rest opens) h.is r in
      goes_on (with_job (job_of aim u w b) opens) h.rest h.others
      (record {
        go = hand_goes opens (job_of aim u w b) h.rest rest.go;
        others = hand_others (job_of aim u w b) h.rest rest.others;
        fit = hand_fits (job_of aim u w b) h.rest rest.fit;
      })
      (hands_agree opens p.status u w b aim t (waits p u free) all)

  given : (es : List Event) (opens : ℕ → Option Work) (l : List Action) (p : Progress) → has_crash es ≡ false
      → IsLegalFrom x p es → more es ≡ steps_of l → Rest opens l → Agree opens p.status → AreGiven may x p es
  given [] opens l p n legal e r all = tt
  given (event.enter u ∷ es) opens l p n legal e r all = (
    tt,
    given es opens l (after (event.enter u) p) n legal.1 e r
        (keeps opens p.status u (is_done None) (waits p u (start_waits x p u _ null legal.0.1)) all),
  )
  given (event.begin u w b ∷ es) opens l p n legal e r all = (
    tt,
    begun_given es opens l p u w b (target_of x u) refl (start_waits x p u legal.0.0 b legal.0.1.1)
        (λ opens' l' e' r' all'. given es opens' l' (after (event.begin u w b) p) n legal.1 e' r' all') e r all,
  )
  given (event.answer u a ∷ es) opens l p n legal e r all =
      let t = takes (dealer.answered u a) (answer_no_begin u a) (more es) l e in
      let by = answered_by u t.done.job.task a t.done.got t.refused t.end in
      let rest = subst (Rest opens) t.is r in
      let low = take_low t.done t.refused t.rest rest.others in
      let its = take_job opens t.done t.refused t.rest low rest.go in
      let own : open_job x u (p.status u) ≡ Some t.done.job
      = subst (λ (v : ℕ). open_job x v (p.status v) ≡ Some t.done.job) by.0 (all t.done.worker low t.done.job its).0 in
      let st = answer_status u a p in (
        λ worker body s.
            given_to u worker body a t.done.job (target_of x u) (ap (open_job x u) (sym s) ∙ own)
            (may_of t.done.job a t.done.got by.1 (take_fit t.done t.refused t.rest rest.fit)),
        given es (without_job t.done opens) t.rest (after (event.answer u a) p) n legal.1 t.others
            (record {
              go = take_goes opens t.done t.refused t.rest rest.go;
              others = take_others t.done t.refused t.rest rest.others;
              fit = take_fits t.done t.refused t.rest rest.fit;
            })
            (subst (Agree (without_job t.done opens)) (sym st.1)
            (subst (λ (v : ℕ). Agree (without_job t.done opens) (changed v st.0 p.status)) by.0
            (takes_agree opens p.status t.done st.0 low its all))),
      )
  given (event.back u ∷ es) opens l p n legal e r all =
      let t = takes (dealer.given_back u) (back_no_begin u) (more es) l e in
      let by = back_by u t.done.job.task t.done.got t.refused t.end in
      let rest = subst (Rest opens) t.is r in
      let low = take_low t.done t.refused t.rest rest.others in
      let its = take_job opens t.done t.refused t.rest low rest.go in (
        tt,
        given es (without_job t.done opens) t.rest (after (event.back u) p) n legal.1 t.others
            (record {
              go = take_goes opens t.done t.refused t.rest rest.go;
              others = take_others t.done t.refused t.rest rest.others;
              fit = take_fits t.done t.refused t.rest rest.fit;
            })
            (subst (λ (v : ℕ). Agree (without_job t.done opens) (changed v is_waiting p.status)) by
            (takes_agree opens p.status t.done is_waiting low its all)),
      )
  given (event.leave u ∷ es) opens l p n legal e r all = (
    tt,
    given es opens l (after (event.leave u) p) n legal.1 e r
        (keeps opens p.status u (is_done None) (waits p u (start_waits x p u _ null legal.0.1)) all),
  )
  given (event.crash ∷ es) opens l p n legal e r all = absurd (true≢false n)

-- ---- after the last crash

record Since (h : List Event) : Type 0 where
  events : List Event
  are : h ≡ until_crash h ++ events
  calm : has_crash events ≡ false

since_by : (e : Event) (es : List Event) (b : Bool) → has_crash (e ∷ es) ≡ b → Since es → Since (e ∷ es)
since_by e es true c r = record {
  events = r.events;
  are =
      ap (λ (l : List Event). e ∷ l) r.are
      ∙ ap (λ (l : List Event). l ++ r.events) (sym (ap (λ (b : Bool). if b then e ∷ until_crash es else []) c));
  calm = r.calm;
}
since_by e es false c r = record {
  events = e ∷ es;
  are = ap (λ (l : List Event). l ++ e ∷ es) (sym (ap (λ (b : Bool). if b then e ∷ until_crash es else []) c));
  calm = c;
}

since : (h : List Event) → Since h
since [] = record { events = []; are = refl; calm = refl }
since (e ∷ es) = since_by e es (has_crash (e ∷ es)) refl (since es)

without : (es : List Event) → has_crash es ≡ false → until_crash es ≡ []
without [] e = refl
without (f ∷ es) e = ap (λ (b : Bool). if b then f ∷ until_crash es else []) e

legal_split : (x : Planned) (p : Progress) (hs es : List Event) → IsLegalFrom x p (hs ++ es)
    → IsLegalFrom x (after_all hs p) es
legal_split x p [] es l = l
legal_split x p (h ∷ hs) es l = legal_split x (after h p) hs es l.1

given_append : (x : Planned) (may : Kind) (p : Progress) (hs es : List Event) → AreGiven may x p hs
    → AreGiven may x (after_all hs p) es → AreGiven may x p (hs ++ es)
given_append x may p [] es a b = b
given_append x may p (h ∷ hs) es a b = (a.0, given_append x may (after h p) hs es a.1 b)

steps_split : (x : Planned) (ss : List DealerStep) (hs es : List Event)
    → steps_from x ss (hs ++ es) ≡ steps_from x (steps_from x ss hs) es
steps_split x ss [] es = refl
steps_split x ss (h ∷ hs) es = steps_split x (steps_after x ss h) hs es

-- a crash closes what was begun before
last_closes : (x : Planned) (ss : List DealerStep) (f : Event) → or_later f false ≡ true → steps_after x ss f ≡ []
last_closes x ss (event.enter u) i = absurd (true≢false (sym i))
last_closes x ss (event.begin u w b) i = absurd (true≢false (sym i))
last_closes x ss (event.answer u a) i = absurd (true≢false (sym i))
last_closes x ss (event.back u) i = absurd (true≢false (sym i))
last_closes x ss (event.leave u) i = absurd (true≢false (sym i))
last_closes x ss event.crash i = refl

none_by : (x : Planned) (ss : List DealerStep) (e : Event) (es : List Event) (b : Bool) → has_crash es ≡ b
    → has_crash (e ∷ es) ≡ true
    → (has_crash es ≡ true → steps_from x (steps_after x ss e) (until_crash es) ≡ [])
    → steps_from x (steps_after x ss e) (until_crash es) ≡ []
none_by x ss e es true d c more = more d
none_by x ss e es false d c more =
    ap (steps_from x (steps_after x ss e)) (without es d) ∙ last_closes x ss e (ap (or_later e) (sym d) ∙ c)

none_until : (x : Planned) (ss : List DealerStep) (h : List Event) → has_crash h ≡ true
    → steps_from x ss (until_crash h) ≡ []
none_until x ss [] c = absurd (true≢false (sym c))
none_until x ss (e ∷ es) c =
    ap (λ (b : Bool). steps_from x ss (if b then e ∷ until_crash es else [])) c
    ∙ none_by x ss e es (has_crash es) refl c (λ d. none_until x (steps_after x ss e) es d)

none_before : (x : Planned) (h : List Event) → steps_from x [] (until_crash h) ≡ []
none_before x h = by (has_crash h) refl
  where
    by : (b : Bool) → has_crash h ≡ b → steps_from x [] (until_crash h) ≡ []
    by true c = none_until x [] h c
    by false c = ap (steps_from x []) (without h c)

module _ (x : Planned) (may : Kind) (seats : ℕ) (h : List Event) (l : List Action) where
  pub answers_given : IsLegal x h → board.steps_of x h ≡ steps_of l
      → ((k : ℕ) → k < seats → Goes IsOfJob k None l None) → ((k : ℕ) → seats ≤ k → of k (dones_of l) ≡ [])
      → ((k : ℕ) → k < seats → AllMay may (of k (dones_of l))) → AreGiven may x at_opening (until_crash h)
      → AreGiven may x at_opening h
  answers_given legal same go others fit before =
      let s = since h in
      let parts = subst (λ (g : List Event). IsLegal x g) s.are legal in
      let later : more x may seats s.events ≡ steps_of l
      = sym (more_is x may seats [] s.events s.calm)
      ∙ ap (λ (ss : List DealerStep). steps_from x ss s.events) (sym (none_before x h))
      ∙ sym (steps_split x [] (until_crash h) s.events) ∙ ap (steps_from x []) (sym s.are) ∙ same in
      subst (λ (g : List Event). AreGiven may x at_opening g) (sym s.are)
      (given_append x may at_opening (until_crash h) s.events before
      (given x may seats s.events (λ k. None) l (progress (until_crash h)) s.calm
      (legal_split x at_opening (until_crash h) s.events parts) later
      (record { go = go; others = others; fit = all_fit }) (λ k low job e. absurd (none_some job e))))
    where
      all_fit : (k : ℕ) → AllMay may (of k (dones_of l))
      all_fit k = elim (leb_tells seats k) [
        | inl i ↦ subst (AllMay may) (sym (others k i.1)) (none_may may)
        | inr i ↦ fit k i.1
      ]

-- one of the seats, where there is one of this number
pub one_of : {A : Type 0} (xs : List A) (k : ℕ) → k < length xs → A
one_of [] k low = absurd (omega (arith, low))
one_of (x ∷ xs) k low = x
