-- The steps of a board say which Begins are open.
use Rattle.std.proofs.Common.{◌≡◌, ◌⊎◌, inl, inr, ℕ, ◌==◌, Bool, List, [], ◌∷◌, ◌++◌}
use Rattle.std.proofs.Common.{Option, Some, None, refl, sym, ap, subst, ◌∙◌}
use Rattle.std.specs.Prelude.{option_map, option_and_then, slice_get, if◌then◌else◌, Result, Ok, Err, IfOk, OnErr}
use Rattle.std.specs.declared.alloc.AllocError.{AllocError}
use Rattle.std.proofs.lemmas.Bool.{cases_eq}
use Rattle.std.proofs.lemmas.List.{append-nil}
use Rattle.std.proofs.lemmas.Option.{same_Some}
use Rattle.arm_value.specs.Json.{Json, null}
use Rattle.provider_trait.specs.Answer.{Suits}
use Rattle.provider_trait.specs.Work.{Work}
use Rattle.provider_trait.specs.declared.act.Act.{Act}
use Rattle.provider_trait.specs.declared.answer.Answer.{Answer}
use Rattle.provider_trait.specs.declared.answer.Answer.TheVariants.{Stored, Gone, Refused}
use Rattle.dealer_trait.specs.declared.dealer_step.DealerStep.{DealerStep}
use Rattle.dealer_trait.specs.Steps as dealer
use Rattle.dealer_trait.specs.declared.next.Next.{Next}
use Rattle.dealer_trait.specs.declared.next.Next.TheVariants.{Begun, Wait, End}
use Rattle.dealer_trait.specs.Steps.{begun, begun_from, begun_after, AsksFor, HasEnd}
use Rattle.depend_graph.proofs.Keeping.{same_test, other_test}
use Rattle.plan_cells.specs.Tasks as task
use Rattle.plan_cells.specs.Tasks.{Task}
use Rattle.deploy_histories.specs.Planned.{Planned}
use Rattle.deploy_histories.specs.Events as event
use Rattle.deploy_histories.specs.Events.{Event, Progress, progress, after, after_all, at_opening, Status, is_waiting}
use Rattle.deploy_histories.specs.Events.{is_begun}
use Rattle.deploy_histories.specs.Events.{is_done, changed, closed, IsBegun}
use Rattle.deploy_histories.specs.Legal.{May, MayEnd, SuitsTask, HasEnded, IsLegal, IsLegalFrom}
use Rattle.deploy_histories.specs.Outcome.{Target, target, target_of}
use Rattle.history_laws.proofs.Steps.{at_itself, at_other, start_waits}
use Rattle.board_dealing.specs.Boards.{job_of, ArePasses, HasPassed, IsBegunAs, IsNext}
use Rattle.deploy_core.specs.Steps.{begins, open_job, steps_after, steps_from, steps_of}
use Rattle.board_dealing.proofs.DealLemmas.{put_act, delete_act}

-- ---- the open job after one step more

begun_more : (u : ℕ) (was : Option Work) (ss : List DealerStep) (s : DealerStep)
    → begun_from u was (ss ++ s ∷ []) ≡ begun_after u (begun_from u was ss) s
unfolding begun_from
begun_more u was [] s = refl
begun_more u was (r ∷ ss) s = begun_more u (begun_after u was r) ss s

none_begun : (u : ℕ) → begun u [] ≡ None
unfolding begun_from
none_begun u = refl

module _ (x : Planned) where
  -- the open job of each task is that of its status
  abbrev pub AreOpen : List DealerStep → (ℕ → Status) → Type 0
  AreOpen ss f = (u : ℕ) → begun u ss ≡ open_job x u (f u)

  ended_by : (ss : List DealerStep) (f : ℕ → Status) (s : DealerStep) (u : ℕ) (st : Status) → AreOpen ss f
      → ((v : ℕ) (was : Option Work) → begun_after v was s ≡ if u == v then None else was)
      → open_job x u st ≡ None → AreOpen (ss ++ s ∷ []) (changed u st f)
  ended_by ss f s u st all c e v = by (cases_eq v u)
    where
      by : (v ≡ u) ⊎ (v ≡ u → ⊥) → begun v (ss ++ s ∷ []) ≡ open_job x v (changed u st f v)
      by (inl i) =
          begun_more v None ss s ∙ c v (begun v ss)
          ∙ ap (λ (b : Bool). if b then None else begun v ss) (same_test u v i)
          ∙ sym (subst (λ (n : ℕ). open_job x n (changed u st f n) ≡ None) (sym i)
          (ap (open_job x u) (at_itself u st f) ∙ e))
      by (inr n) =
          begun_more v None ss s ∙ c v (begun v ss)
          ∙ ap (λ (b : Bool). if b then None else begun v ss) (other_test u v n)
          ∙ all v ∙ ap (open_job x v) (sym (at_other u st f v n))

  same_by : (ss : List DealerStep) (f : ℕ → Status) (u : ℕ) (st : Status) → AreOpen ss f
      → open_job x u (f u) ≡ None → open_job x u st ≡ None → AreOpen ss (changed u st f)
  same_by ss f u st all was e v = by (cases_eq v u)
    where
      by : (v ≡ u) ⊎ (v ≡ u → ⊥) → begun v ss ≡ open_job x v (changed u st f v)
      by (inl i) =
          subst (λ (n : ℕ). begun n ss ≡ open_job x n (changed u st f n)) (sym i)
          (all u ∙ was ∙ sym (ap (open_job x u) (at_itself u st f) ∙ e))
      by (inr n) = all v ∙ ap (open_job x v) (sym (at_other u st f v n))

  begun_by : (ss : List DealerStep) (f : ℕ → Status) (u worker : ℕ) (body : Json) (o : Option Target)
      → target_of x u ≡ o → AreOpen ss f → f u ≡ is_waiting
      → AreOpen (ss ++ begins (option_map (λ aim. job_of aim u worker body) o)) (changed u (is_begun worker body) f)
  begun_by ss f u worker body None t all w =
      subst (λ (l : List DealerStep). AreOpen l (changed u (is_begun worker body) f)) (sym (append-nil ss))
      (same_by ss f u (is_begun worker body) all (ap (open_job x u) w)
      (ap (option_map (λ aim. job_of aim u worker body)) t))
  begun_by ss f u worker body (Some aim) t all w = λ v. by v (cases_eq v u)
    where
      by : (v : ℕ) → (v ≡ u) ⊎ (v ≡ u → ⊥)
          → begun v (ss ++ dealer.begin (job_of aim u worker body) ∷ [])
          ≡ open_job x v (changed u (is_begun worker body) f v)
      by v (inl i) =
          begun_more v None ss (dealer.begin (job_of aim u worker body))
          ∙ ap (λ (b : Bool). if b then Some (job_of aim u worker body) else begun v ss) (same_test u v i)
          ∙ sym (subst (λ (n : ℕ). open_job x n (changed u (is_begun worker body) f n)
          ≡ Some (job_of aim u worker body)) (sym i)
          (ap (open_job x u) (at_itself u (is_begun worker body) f)
          ∙ ap (option_map (λ aim. job_of aim u worker body)) t))
      by v (inr n) =
          begun_more v None ss (dealer.begin (job_of aim u worker body))
          ∙ ap (λ (b : Bool). if b then Some (job_of aim u worker body) else begun v ss) (other_test u v n)
          ∙ all v ∙ ap (open_job x v) (sym (at_other u (is_begun worker body) f v n))

  closed_none : (u : ℕ) (s : Status) → open_job x u (closed s) ≡ None
  closed_none u is_waiting = refl
  closed_none u (is_begun w b) = refl
  closed_none u (is_done o) = refl

  open_after : (p : Progress) (ss : List DealerStep) (e : Event) → May x p e → AreOpen ss p.status
      → AreOpen (steps_after x ss e) (after e p).status
  open_after p ss (event.enter u) m all =
      same_by ss p.status u (is_done None) all (ap (open_job x u) (start_waits x p u _ null m.1)) refl
  open_after p ss (event.begin u worker body) m all =
      begun_by ss p.status u worker body (target_of x u) refl all (start_waits x p u m.0 body m.1.1)
  open_after p ss (event.answer u (Stored j)) m all =
      ended_by ss p.status (dealer.answered u (Stored j)) u (is_done (Some j)) all (λ v was. refl) refl
  open_after p ss (event.answer u Gone) m all =
      ended_by ss p.status (dealer.answered u Gone) u (is_done None) all (λ v was. refl) refl
  open_after p ss (event.answer u (Refused code)) m all =
      ended_by ss p.status (dealer.answered u (Refused code)) u is_waiting all (λ v was. refl) refl
  open_after p ss (event.back u) m all =
      ended_by ss p.status (dealer.given_back u) u is_waiting all (λ v was. refl) refl
  open_after p ss (event.leave u) m all =
      same_by ss p.status u (is_done None) all (ap (open_job x u) (start_waits x p u _ null m.1)) refl
  open_after p ss event.crash m all = λ v. none_begun v ∙ sym (closed_none v (p.status v))

  open_from : (p : Progress) (ss : List DealerStep) (es : List Event) → IsLegalFrom x p es → AreOpen ss p.status
      → AreOpen (steps_from x ss es) (after_all es p).status
  open_from p ss [] l all = all
  open_from p ss (e ∷ es) l all = open_from (after e p) (steps_after x ss e) es l.1 (open_after p ss e l.0 all)

  pub open_of : (h : List Event) → IsLegal x h → AreOpen (steps_of x h) (progress h).status
  open_of h l = open_from at_opening [] h l none_begun

  steps_then : (ss : List DealerStep) (es fs : List Event) → steps_from x ss (es ++ fs)
      ≡ steps_from x (steps_from x ss es) fs
  steps_then ss [] fs = refl
  steps_then ss (e ∷ es) fs = steps_then (steps_after x ss e) es fs

  pub steps_more : (h : List Event) (e : Event) → steps_of x (h ++ e ∷ []) ≡ steps_after x (steps_of x h) e
  steps_more h e = steps_then [] h (e ∷ [])

  no_step : (ss : List DealerStep) (p : Progress) (es : List Event) → ArePasses x p es → steps_from x ss es ≡ ss
  no_step ss p [] o = refl
  no_step ss p (event.enter u ∷ es) o = no_step ss (after (event.enter u) p) es o.1
  no_step ss p (event.leave u ∷ es) o = no_step ss (after (event.leave u) p) es o.1
  no_step ss p (event.begin u w b ∷ es) o = absurd o.0.is_scope
  no_step ss p (event.answer u a ∷ es) o = absurd o.0.is_scope
  no_step ss p (event.back u ∷ es) o = absurd o.0.is_scope
  no_step ss p (event.crash ∷ es) o = absurd o.0.is_scope

  pub passed_steps : (old new : List Event) → HasPassed x old new → steps_of x new ≡ steps_of x old
  passed_steps old new p =
      ap (λ (l : List Event). steps_of x l) p.are ∙ steps_then [] old p.events
      ∙ no_step (steps_of x old) (progress old) p.events p.are_passes

  -- ---- an answer to an open Begin

  waits_none : (s : Status) (u : ℕ) (job : Work) → open_job x u s ≡ Some job
      → (w : ℕ) × ((b : Json) × (s ≡ is_begun w b))
  waits_none is_waiting u job e = let f : None ≡ Some job = e in absurd (cc)
  waits_none (is_done o) u job e = let f : None ≡ Some job = e in absurd (cc)
  waits_none (is_begun w b) u job e = (w, (b, refl))

  pub is_begun_by : (h : List Event) → IsLegal x h → (u : ℕ) → dealer.IsBegun u (steps_of x h) → IsBegun (progress h) u
  is_begun_by h l u b = waits_none ((progress h).status u) u b.0 (sym (open_of h l u) ∙ b.1)

  record HasAim (u : ℕ) (job : Work) : Type 0 where
    aim : Target
    is_aim : target_of x u ≡ Some aim
    acts : job.act ≡ aim.act

  aim_of : (u w : ℕ) (b : Json) (o : Option Target) (job : Work) → target_of x u ≡ o
      → option_map (λ aim. job_of aim u w b) o ≡ Some job → HasAim u job
  aim_of u w b None job t e = let f : None ≡ Some job = e in absurd (cc)
  aim_of u w b (Some aim) job t e = record {
    aim = aim;
    is_aim = t;
    acts = ap (λ (j : Work). j.act) (sym (same_Some _ job e));
  }

  record IsTaskOf (u : ℕ) (aim : Target) : Type 0 where
    one : Task
    is_task : slice_get x.tasks u ≡ Some one
    has_aim : target x one ≡ Some aim

  task_of : (u : ℕ) (aim : Target) (o : Option Task) → slice_get x.tasks u ≡ o
      → option_and_then (target x) o ≡ Some aim → IsTaskOf u aim
  task_of u aim None t e = let f : None ≡ Some aim = e in absurd (cc)
  task_of u aim (Some one) t e = record { one = one; is_task = t; has_aim = e }

  suits_of : (one : Task) (aim : Target) (a : Answer) → target x one ≡ Some aim → Suits aim.act a → SuitsTask one a
  suits_of (task.put p s) aim a e i = subst (λ (c : Act). Suits c a) (put_act x.deployment.place _ _ aim e) i
  suits_of (task.delete k) aim a e i = subst (λ (c : Act). Suits c a) (delete_act _ aim e) i
  suits_of (task.enter p) aim a e i = let f : None ≡ Some aim = e in absurd (cc)
  suits_of (task.leave p) aim a e i = let f : None ≡ Some aim = e in absurd (cc)

  pub may_end_by : (h : List Event) → IsLegal x h → (u : ℕ) (a : Answer) → dealer.MayAnswer u a (steps_of x h)
      → MayEnd x (progress h) u a
  may_end_by h l u a m =
      let b = is_begun_by h l u (m.0, m.1) in
      let s : open_job x u (is_begun b.0 b.1.0) ≡ Some m.0
      = ap (open_job x u) (sym b.1.1) ∙ sym (open_of h l u) ∙ m.1 in
      let g = aim_of u b.0 b.1.0 (target_of x u) m.0 refl s in
      let t = task_of u g.aim (slice_get x.tasks u) refl g.is_aim in
      record {
        is_begun = b;
        ended = t.one;
        is_task = t.is_task;
        suits = suits_of t.one g.aim a t.has_aim (subst (λ (c : Act). Suits c a) g.acts m.2);
      }

  -- ---- what a board answers as a dealer

  legal_split : (p : Progress) (es : List Event) (e : Event) → IsLegalFrom x p (es ++ e ∷ [])
      → IsLegalFrom x p es × May x (after_all es p) e
  legal_split p [] e l = (tt, l.0)
  legal_split p (f ∷ es) e l = let r = legal_split (after f p) es e l.1 in ((l.0, r.0), r.1)

  module _ (old : List Event) (worker : ℕ) (job : Work) (new : List Event) (i : IsBegunAs x old worker job new)
      (l : IsLegal x new) where
    worker_is : job.worker ≡ worker
    worker_is = ap (λ (j : Work). j.worker) i.is_job

    split : IsLegal x i.between × May x (progress i.between) (event.begin job.task worker job.body)
    split = legal_split at_opening i.between (event.begin job.task worker job.body)
        (subst (λ (h : List Event). IsLegal x h) i.begun l)

    none_open : begun job.task (steps_of x old) ≡ None
    none_open =
        ap (λ (ss : List DealerStep). begun job.task ss) (sym (passed_steps old i.between i.has_settled.has_passed))
        ∙ open_of i.between split.0 job.task
        ∙ ap (open_job x job.task)
        (start_waits x (progress i.between) job.task split.1.0 job.body split.1.1.1)

    its_job : job_of i.aim job.task worker job.body ≡ job
    its_job = sym i.is_job

    begins_it : begins (open_job x job.task (is_begun worker job.body)) ≡ dealer.begin job ∷ []
    begins_it =
        ap (λ (o : Option Target). begins (option_map (λ aim. job_of aim job.task worker job.body) o)) i.has_aim
        ∙ ap (λ (j : Work). dealer.begin j ∷ []) its_job

    steps_are : steps_of x new ≡ steps_of x old ++ dealer.begin job ∷ []
    steps_are =
        ap (λ (h : List Event). steps_of x h) i.begun
        ∙ steps_more i.between (event.begin job.task worker job.body)
        ∙ ap (λ (ss : List DealerStep). ss ++ begins (open_job x job.task (is_begun worker job.body)))
        (passed_steps old i.between i.has_settled.has_passed)
        ∙ ap (λ (ss : List DealerStep). steps_of x old ++ ss) begins_it

    begun_asked : (job.worker ≡ worker) × (begun job.task (steps_of x old) ≡ None)
        × (steps_of x new ≡ steps_of x old ++ dealer.begin job ∷ [])
    begun_asked = (worker_is, none_open, steps_are)

  pub asks : (old : List Event) (worker : ℕ) (new : List Event) (r : Result Next AllocError)
      → IfOk r (λ n. IsNext x old worker n new) → OnErr r (HasPassed x old new) → IsLegal x new
      → AsksFor worker (steps_of x old) (steps_of x new) r
  asks old worker new (Ok (Begun job)) i f l = begun_asked old worker job new i l
  asks old worker new (Ok Wait) i f l = passed_steps old new i.0.has_passed
  asks old worker new (Ok End) i f l = passed_steps old new i.0.has_passed
  asks old worker new (Err e) i f l = passed_steps old new f

  pub ends : (old : List Event) (worker : ℕ) (new : List Event) (r : Result Next AllocError)
      → IfOk r (λ n. IsNext x old worker n new) → HasEnd (HasEnded x (progress new)) r
  ends old worker new (Ok (Begun job)) i = tt
  ends old worker new (Ok Wait) i = tt
  ends old worker new (Ok End) i = i.1
  ends old worker new (Err e) i = tt
