-- What each event keeps: tasks that are begun or done were ready.
use Rattle.std.proofs.Common.{◌≡◌, inl, inr, ℕ, List, [], ◌∷◌, Option, Some, None, refl, sym, subst, ◌∙◌}
use Rattle.std.specs.Prelude.{slice_get, option_and_then}
use Rattle.std.proofs.lemmas.Option.{same_Some}
use Rattle.arm_value.specs.Json.{Json, null}
use Rattle.provider_trait.specs.declared.answer.Answer.{Answer}
use Rattle.provider_trait.specs.declared.answer.Answer.TheVariants.{Stored, Gone, Refused}
use Rattle.deploy_histories.specs.Tasks as task
use Rattle.deploy_histories.specs.Tasks.{Task}
use Rattle.deploy_histories.specs.Planned.{Planned}
use Rattle.deploy_histories.specs.Events.{Event, enter, begin, answer, back, leave, crash, Status, is_waiting, is_begun, is_done, Progress, changed, after_answer, closed, after, after_all, at_opening, progress}
use Rattle.deploy_histories.specs.Legal.{IsAct, SuitsTask, May, MayStart, MayEnd, IsLegalFrom, IsLegal}
use Rattle.deploy_histories.specs.Outcome.{MayAnswer, IsGivenTo, target, target_of, IsGiven, AreGiven}
use Rattle.deploy_histories.proofs.ReadinessLemmas.{ready_says}
use Rattle.history_laws.specs.Past.{StaysDone, WasReady, IsLeft, IsBegunAs, IsDoneAs, IsKept}
use Rattle.history_laws.proofs.Steps.{at_changed, change_stays, start_waits, waiting_not, begun_not, closed_done}

some_left : (a b : Option Json) → is_done a ≡ is_done b → a ≡ b
some_left a b e = cc

module _ (may : MayAnswer) (x : Planned) where
  pub ready_still : (f g : ℕ → Status) → StaysDone f g → (u : ℕ) (t : Task) (body : Json) → WasReady x f u t body
      → WasReady x g u t body
  ready_still f g more u t body r = record {
    earlier = r.earlier;
    known = r.known;
    is_known = r.is_known;
    is_ready = r.is_ready;
    stays = λ v o e. more v o (r.stays v o e);
  }

  begun_still : (f g : ℕ → Status) → StaysDone f g → (u : ℕ) (body : Json) → IsBegunAs x f u body
      → IsBegunAs x g u body
  begun_still f g more u body b = record {
    task = b.task;
    is_task = b.is_task;
    is_act = b.is_act;
    was_ready = ready_still f g more u b.task body b.was_ready;
  }

  done_still : (f g : ℕ → Status) → StaysDone f g → (u : ℕ) (o : Option Json) → IsDoneAs may x f u o
      → IsDoneAs may x g u o
  done_still f g more u o b = record {
    task = b.task;
    is_task = b.is_task;
    body = b.body;
    was_ready = ready_still f g more u b.task b.body b.was_ready;
    is_left = b.is_left;
  }

  -- one task gets a status that is true of it
  kept_change : (u : ℕ) (s : Status) (f : ℕ → Status) → ((o : Option Json) → f u ≡ is_done o → ⊥)
      → ((w : ℕ) (body : Json) → s ≡ is_begun w body → IsBegunAs x f u body)
      → ((o : Option Json) → s ≡ is_done o → IsDoneAs may x f u o) → IsKept may x f → IsKept may x (changed u s f)
  kept_change u s f n as_begun as_done k = record { begun = begun_so; done = done_so }
    where
      more : StaysDone f (changed u s f)
      more = change_stays u s f n

      begun_so : (v w : ℕ) (body : Json) → changed u s f v ≡ is_begun w body → IsBegunAs x (changed u s f) v body
      begun_so v w body e = elim (at_changed u s f v) [
        | inl h ↦
            subst (λ (i : ℕ). IsBegunAs x (changed u s f) i body) (sym h.0)
            (begun_still f (changed u s f) more u body (as_begun w body (sym h.1 ∙ e)))
        | inr h ↦ begun_still f (changed u s f) more v body (k.begun v w body (sym h.1 ∙ e))
      ]

      done_so : (v : ℕ) (o : Option Json) → changed u s f v ≡ is_done o → IsDoneAs may x (changed u s f) v o
      done_so v o e = elim (at_changed u s f v) [
        | inl h ↦
            subst (λ (i : ℕ). IsDoneAs may x (changed u s f) i o) (sym h.0)
            (done_still f (changed u s f) more u o (as_done o (sym h.1 ∙ e)))
        | inr h ↦ done_still f (changed u s f) more v o (k.done v o (sym h.1 ∙ e))
      ]

  never_begun : (o : Option Json) (w : ℕ) (body : Json) → is_done o ≡ is_begun w body → ⊥
  never_begun o w body e = cc

  never_done : (w : ℕ) (body : Json) (o : Option Json) → is_begun w body ≡ is_done o → ⊥
  never_done w body o e = cc

  still_waiting : (w : ℕ) (body : Json) → is_waiting ≡ is_begun w body → ⊥
  still_waiting w body e = cc

  not_yet : (o : Option Json) → is_waiting ≡ is_done o → ⊥
  not_yet o e = cc

  -- a task is done
  kept_done : (u : ℕ) (o : Option Json) (f : ℕ → Status) → ((o : Option Json) → f u ≡ is_done o → ⊥)
      → IsDoneAs may x f u o → IsKept may x f → IsKept may x (changed u (is_done o) f)
  kept_done u o f n d k =
      kept_change u (is_done o) f n (λ w body e. absurd (never_begun o w body e))
      (λ q e. subst (λ (i : Option Json). IsDoneAs may x f u i) (some_left o q e) d) k

  -- a task waits again
  kept_waiting : (u : ℕ) (f : ℕ → Status) → ((o : Option Json) → f u ≡ is_done o → ⊥) → IsKept may x f
      → IsKept may x (changed u is_waiting f)
  kept_waiting u f n k =
      kept_change u is_waiting f n (λ w body e. absurd (still_waiting w body e)) (λ o e. absurd (not_yet o e)) k

  pub started_ready : (p : Progress) (u : ℕ) (t : Task) (body : Json) → MayStart x p u t body
      → WasReady x p.status u t body
  started_ready p u t body m = record {
    earlier = p;
    known = m.known;
    is_known = m.is_known;
    is_ready = ready_says x m.known p u t body m.is_ready;
    stays = λ v o e. e;
  }

  kept_scope : (p : Progress) (u : ℕ) (t : Task) → MayStart x p u t null → IsLeft may x t null None
      → IsKept may x p.status → IsKept may x (changed u (is_done None) p.status)
  kept_scope p u t m left k =
      kept_done u None p.status (waiting_not p.status u (start_waits x p u t null m))
      (record {
        task = t;
        is_task = m.is_task;
        body = null;
        was_ready = started_ready p u t null m;
        is_left = left;
      }) k

  same_body : (w : ℕ) (b : Json) (v : ℕ) (c : Json) → is_begun w b ≡ is_begun v c → b ≡ c
  same_body w b v c e = cc

  kept_begin : (p : Progress) (u w : ℕ) (body : Json) (t : Task) → IsAct t → MayStart x p u t body
      → IsKept may x p.status → IsKept may x (changed u (is_begun w body) p.status)
  kept_begin p u w body t act m k =
      kept_change u (is_begun w body) p.status (waiting_not p.status u (start_waits x p u t body m))
      (λ v c e. subst (λ (b : Json). IsBegunAs x p.status u b) (same_body w body v c e) begun_now)
      (λ o e. absurd (never_done w body o e)) k
    where
      begun_now : IsBegunAs x p.status u body
      begun_now = record { task = t; is_task = m.is_task; is_act = act; was_ready = started_ready p u t body m }

  left_stored : (u : ℕ) (t : Task) (body j : Json) → SuitsTask t (Stored j)
      → IsGivenTo may (target x t) body (Stored j) → IsLeft may x t body (Some j)
  left_stored u (task.put p s) body j suits given = (j, (refl, given))
  left_stored u (task.delete k) body j suits given = absurd suits
  left_stored u (task.enter p) body j suits given = absurd suits
  left_stored u (task.leave p) body j suits given = absurd suits

  left_gone : (u : ℕ) (t : Task) (body : Json) → SuitsTask t Gone → IsLeft may x t body None
  left_gone u (task.put p s) body suits = absurd suits
  left_gone u (task.delete k) body suits = refl
  left_gone u (task.enter p) body suits = absurd suits
  left_gone u (task.leave p) body suits = absurd suits

  pub given_target : (u : ℕ) (t : Task) (body : Json) (a : Answer) → slice_get x.tasks u ≡ Some t
      → IsGivenTo may (target_of x u) body a → IsGivenTo may (target x t) body a
  given_target u t body a is g =
      subst (λ (o : Option Task). IsGivenTo may (option_and_then (target x) o) body a) is g

  kept_answer : (p : Progress) (u : ℕ) (a : Answer) → MayEnd x p u a → IsGiven may x p (answer u a)
      → IsKept may x p.status → IsKept may x (after_answer u a p).status
  kept_answer p u (Stored j) m g k =
      let h = m.is_begun in let b = k.begun u h.0 h.1.0 h.1.1 in
      let same = same_Some m.ended b.task (sym m.is_task ∙ b.is_task) in
      kept_done u (Some j) p.status (begun_not p.status u h.0 h.1.0 h.1.1)
      (record {
        task = b.task;
        is_task = b.is_task;
        body = h.1.0;
        was_ready = b.was_ready;
        is_left =
            left_stored u b.task h.1.0 j (subst (λ (t : Task). SuitsTask t (Stored j)) same m.suits)
            (given_target u b.task h.1.0 (Stored j) b.is_task (g h.0 h.1.0 h.1.1));
      }) k
  kept_answer p u Gone m g k =
      let h = m.is_begun in let b = k.begun u h.0 h.1.0 h.1.1 in
      let same = same_Some m.ended b.task (sym m.is_task ∙ b.is_task) in
      kept_done u None p.status (begun_not p.status u h.0 h.1.0 h.1.1)
      (record {
        task = b.task;
        is_task = b.is_task;
        body = h.1.0;
        was_ready = b.was_ready;
        is_left = left_gone u b.task h.1.0 (subst (λ (t : Task). SuitsTask t Gone) same m.suits);
      }) k
  kept_answer p u (Refused code) m g k =
      let h = m.is_begun in kept_waiting u p.status (begun_not p.status u h.0 h.1.0 h.1.1) k

  closed_begun : (s : Status) (w : ℕ) (body : Json) → closed s ≡ is_begun w body → ⊥
  closed_begun is_waiting w body e = still_waiting w body e
  closed_begun (is_begun v c) w body e = still_waiting w body e
  closed_begun (is_done o) w body e = never_begun o w body e

  done_closed : (s : Status) (o : Option Json) → closed s ≡ is_done o → s ≡ is_done o
  done_closed is_waiting o e = e
  done_closed (is_begun v c) o e = absurd (not_yet o e)
  done_closed (is_done q) o e = e

  kept_crash : (p : Progress) → IsKept may x p.status → IsKept may x (after crash p).status
  kept_crash p k = record {
    begun = λ u w body e. absurd (closed_begun (p.status u) w body e);
    done = λ u o e.
        done_still p.status (after crash p).status (λ v q h. closed_done (p.status v) q h) u o
        (k.done u o (done_closed (p.status u) o e));
  }

  pub kept_step : (p : Progress) (e : Event) → May x p e → IsGiven may x p e → IsKept may x p.status
      → IsKept may x (after e p).status
  kept_step p (enter u) m g k = kept_scope p u (task.enter m.0) m.1 refl k
  kept_step p (begin u w body) m g k = kept_begin p u w body m.0 m.1.0 m.1.1 k
  kept_step p (answer u a) m g k = kept_answer p u a m g k
  kept_step p (back u) m g k = kept_waiting u p.status (begun_not p.status u m.0 m.1.0 m.1.1) k
  kept_step p (leave u) m g k = kept_scope p u (task.leave m.0) m.1 refl k
  kept_step p crash m g k = kept_crash p k

  pub kept_all : (p : Progress) (es : List Event) → IsLegalFrom x p es → AreGiven may x p es
      → IsKept may x p.status → IsKept may x (after_all es p).status
  kept_all p [] l g k = k
  kept_all p (e ∷ es) l g k = kept_all (after e p) es l.1 g.1 (kept_step p e l.0 g.0 k)

  pub kept_opening : IsKept may x at_opening.status
  kept_opening = record {
    begun = λ u w body e. absurd (still_waiting w body e);
    done = λ u o e. absurd (not_yet o e);
  }

  pub kept_always : (h : List Event) → IsLegal x h → AreGiven may x at_opening h → IsKept may x (progress h).status
  kept_always h l g = kept_all at_opening h l g kept_opening
