-- Each task that waits is covered still after an event.
use Rattle.std.proofs.Common.{◌≡◌, ◌⊎◌, inl, inr, ℕ, zero, suc, ◌≤◌, true, List, []}
use Rattle.std.proofs.Common.{◌∷◌, ◌++◌, length, Some, None, refl, sym, subst}
use Rattle.std.specs.Prelude.{slice_get}
use Rattle.depend_graph.specs.Shape as graph
use Rattle.deploy_histories.specs.Planned.{Planned}
use Rattle.deploy_histories.specs.Events.{Event, Progress, progress, after, after_all, at_opening}
use Rattle.deploy_histories.specs.Legal.{May, IsLegalFrom, IsLegal}
use Rattle.history_laws.specs.Past.{StaysDone}
use Rattle.history_laws.proofs.Steps as steps
use Rattle.task_standings.proofs.Lasting.{needs_later, stuck_later}
use Rattle.task_agenda.specs.declared.agenda.Agenda.{Agenda}
use Rattle.task_agenda.specs.Agendas.{is_listed}
use Rattle.task_agenda.specs.Lists.{IsHeldUp}
use Rattle.board_dealing.specs.Kept.{waker, IsNeeded, IsWoken, IsStuckTask, IsCovered}

legal_from_more : (x : Planned) (p : Progress) (es : List Event) (e : Event) → IsLegalFrom x p es
    → May x (after_all es p) e → IsLegalFrom x p (es ++ e ∷ [])
legal_from_more x p [] e l m = (m, tt)
legal_from_more x p (f ∷ es) e l m = (l.0, legal_from_more x (after f p) es e l.1 m)

pub legal_more : (x : Planned) (h : List Event) (e : Event) → IsLegal x h → May x (progress h) e
    → IsLegal x (h ++ e ∷ [])
legal_more x h e l m = legal_from_more x at_opening h e l m

after_all_more : (p : Progress) (es : List Event) (e : Event) → after_all (es ++ e ∷ []) p ≡ after e (after_all es p)
after_all_more p [] e = refl
after_all_more p (f ∷ es) e = after_all_more (after f p) es e

pub progress_more : (h : List Event) (e : Event) → progress (h ++ e ∷ []) ≡ after e (progress h)
progress_more h e = after_all_more at_opening h e

pub stays_done : (x : Planned) (h : List Event) (e : Event) → May x (progress h) e
    → StaysDone (progress h).status (progress (h ++ e ∷ [])).status
stays_done x h e m =
    subst (λ (p : Progress). StaysDone (progress h).status p.status) (sym (progress_more h e))
    (steps.done_stays x (progress h) e m)

at_before : (es : List Event) (e : Event) (i : ℕ) (f : Event) → slice_get es i ≡ Some f
    → slice_get (es ++ e ∷ []) i ≡ Some f
at_before [] e i f g = let n : None ≡ Some f = g in absurd (cc)
at_before (d ∷ es) e zero f g = g
at_before (d ∷ es) e (suc i) f g = at_before es e i f g

pub at_last : (es : List Event) (e : Event) → slice_get (es ++ e ∷ []) (length es) ≡ Some e
at_last [] e = refl
at_last (d ∷ es) e = at_last es e

module _ (x : Planned) (h : List Event) (e : Event) (m : May x (progress h) e) (a b : Agenda)
    (lists : (u : ℕ) → is_listed a u ≡ true → is_listed b u ≡ true)
    (needs : (u v : ℕ) → graph.Needs a.graph u v → graph.Needs b.graph u v) where
  pub needed_still : (u v : ℕ) → IsNeeded x h a u v → IsNeeded x (h ++ e ∷ []) b u v
  needed_still u v n = record {
    task = n.task;
    is_task = n.is_task;
    other = n.other;
    is_other = n.is_other;
    needs = needs_later x (progress h) (progress (h ++ e ∷ [])) n.task n.other (stays_done x h e m) n.needs;
  }

  woken_still : (seen u : ℕ) → IsWoken x h a seen u → IsWoken x (h ++ e ∷ []) b seen u
  woken_still seen u w = record {
    place = w.place;
    from = w.from;
    happened = w.happened;
    is_there = at_before h e w.place w.happened w.is_there;
    waking = w.waking;
    wakes = w.wakes;
    is_concerned = elim w.is_concerned [ inl i ↦ inl i | inr n ↦ inr (needs u w.waking n) ];
  }

  stuck_still : (u : ℕ) → IsStuckTask x h a u → IsStuckTask x (h ++ e ∷ []) b u
  stuck_still u s = record {
    task = s.task;
    is_task = s.is_task;
    is_stuck = stuck_later x (progress h) (progress (h ++ e ∷ [])) s.task (stays_done x h e m) s.is_stuck;
  }

  -- the task is looked at because of the new event
  pub woken_now : (seen u v : ℕ) → seen ≤ length h → waker e ≡ Some v → (v ≡ u) ⊎ graph.Needs b.graph u v
      → IsWoken x (h ++ e ∷ []) b seen u
  woken_now seen u v l w c = record {
    place = length h;
    from = l;
    happened = e;
    is_there = at_last h e;
    waking = v;
    wakes = w;
    is_concerned = c;
  }

  pub covered_still : (seen u : ℕ)
      → (IsHeldUp a.graph u → IsHeldUp b.graph u ⊎ IsWoken x (h ++ e ∷ []) b seen u)
      → IsCovered x h a seen u → IsCovered x (h ++ e ∷ []) b seen u
  covered_still seen u held (inl (inl l)) = inl (inl (lists u l))
  covered_still seen u held (inl (inr i)) = elim (held i) [ inl j ↦ inl (inr j) | inr w ↦ inr (inl w) ]
  covered_still seen u held (inr (inl w)) = inr (inl (woken_still seen u w))
  covered_still seen u held (inr (inr s)) = inr (inr (stuck_still u s))
