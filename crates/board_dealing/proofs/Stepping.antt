-- What a board keeps after one event more.
use Rattle.std.proofs.Common.{◌≡◌, ◌⊎◌, inl, inr, ℕ, zero, suc, ◌<◌, ◌≤◌, ◌+◌, Bool, true, false, true≢false}
use Rattle.std.proofs.Common.{List, [], ◌∷◌, ◌++◌}
use Rattle.std.proofs.Common.{length, refl, sym, ap, subst, ◌∙◌, arith, length-append}
use Rattle.std.specs.Prelude.{slice_index_or, slice_set}
use Rattle.depend_graph.specs.Shape as graph
use Rattle.depend_graph.specs.Shape.{Shape, with_done}
use Rattle.std.proofs.lemmas.Bool.{cases_eq}
use Rattle.plan_cells.specs.Known.{Table}
use Rattle.deploy_histories.specs.Planned.{Planned}
use Rattle.deploy_histories.specs.Events.{Event, progress, Status, is_waiting, is_begun, is_done, done_status}
use Rattle.deploy_histories.specs.Legal.{May}
use Rattle.task_standings.specs.Seen.{IsSeen}
use Rattle.task_standings.specs.Standings.{AreScopesSeen}
use Rattle.task_agenda.specs.declared.agenda.Agenda.{Agenda}
use Rattle.task_agenda.specs.Agendas.{HasGraph}
use Rattle.task_agenda.specs.Lists as lists
use Rattle.task_agenda.specs.Lists.{IsHeldUp}
use Rattle.board_dealing.specs.Kept.{IsWoken, IsCovered, IsKept, Concerns, Does}
use Rattle.board_dealing.proofs.Undone.{done_other, held_or_needs}
use Rattle.board_dealing.proofs.Agendas.{same_listed}
use Rattle.board_dealing.proofs.Covering.{legal_more, needed_still, woken_now, covered_still}

longer_by : (h : List Event) (e : Event) (seen : ℕ) → seen ≤ length h → seen ≤ length (h ++ e ∷ [])
longer_by h e seen w =
    let l : length (h ++ e ∷ []) ≡ length h + 1 = length-append h (e ∷ []) in omega (arith, w, l)

module _ (x : Planned) (t : Table) (tasks : ℕ) (h : List Event) (a : Agenda) (seen : ℕ)
    (k : IsKept x t tasks h a seen) (e : Event) (m : May x (progress h) e)
    (seen_more : IsSeen x (progress (h ++ e ∷ [])) t) where
  -- the agenda is the same, and no task is done that was not
  pub same_agenda : (u : ℕ) → Concerns h e u
      → ((v : ℕ) → done_status ((progress (h ++ e ∷ [])).status v) ≡ done_status ((progress h).status v))
      → IsKept x t tasks (h ++ e ∷ []) a seen
  same_agenda u c d = record {
    is_legal = legal_more x h e k.is_legal m;
    is_seen = seen_more;
    scopes = λ v i. k.scopes v (sym (d v) ∙ i);
    tasks_are = k.tasks_are;
    agenda_of = k.agenda_of;
    sized = k.sized;
    kinds_are = k.kinds_are;
    done_are = λ v l. k.done_are v l ∙ sym (d v);
    start_needs = k.start_needs;
    needs_are = λ v w n. needed_still x h e m a a (λ i l. l) (λ i j l. l) v w (k.needs_are v w n);
    within = longer_by h e seen k.within;
    covered = λ v l w. by_number v l w (cases_eq v u);
  }
    where
      by_number : (v : ℕ) → v < length x.tasks → (progress (h ++ e ∷ [])).status v ≡ is_waiting
          → (v ≡ u) ⊎ (v ≡ u → ⊥) → IsCovered x (h ++ e ∷ []) a seen v
      by_number v l w (inl i) =
          inr (inl (woken_now x h e m a a (λ j f. f) (λ j n f. f) seen v u k.within
          (c.itself (subst (λ (n : ℕ). (progress (h ++ e ∷ [])).status n ≡ is_waiting) i w)) (inl (sym i))))
      by_number v l w (inr n) =
          covered_still x h e m a a (λ j f. f) (λ i j f. f) seen v (λ j. inl j)
          (k.covered v l (sym (c.others v n) ∙ w))

done_itself : (ds : List Bool) (u : ℕ) → u < length ds → slice_index_or (slice_set ds u true) u false ≡ true
done_itself [] u h = absurd (omega (arith, h))
done_itself (d ∷ ds) zero h = refl
done_itself (d ∷ ds) (suc u) h = done_itself ds u (omega (arith, h))

same_length : (ds : List Bool) (u : ℕ) → length (slice_set ds u true) ≡ length ds
same_length [] u = refl
same_length (d ∷ ds) zero = refl
same_length (d ∷ ds) (suc u) = ap (λ (n : ℕ). suc n) (same_length ds u)

not_waiting : (s : Status) → done_status s ≡ true → s ≡ is_waiting → ⊥
not_waiting is_waiting d e = absurd (true≢false (sym d))
not_waiting (is_begun w b) d e = absurd (true≢false (sym d))
not_waiting (is_done o) d e = let f : is_done o ≡ is_waiting = e in cc

-- a task is done by the event, and it is noted in the agenda
module _ (x : Planned) (t : Table) (tasks : ℕ) (h : List Event) (a : Agenda) (seen : ℕ)
    (k : IsKept x t tasks h a seen) (e : Event) (m : May x (progress h) e) (s : Table)
    (seen_more : IsSeen x (progress (h ++ e ∷ [])) s) (scopes_more : AreScopesSeen x (progress (h ++ e ∷ [])) s) (u :
    ℕ) (in_plan : u < length x.tasks) (d : Does h e u)
    (b : Agenda) (g : HasGraph a b (with_done a.graph u)) where
  needs_more : (v w : ℕ) → graph.Needs a.graph v w → graph.Needs b.graph v w
  needs_more v w n = subst (λ (z : Shape). graph.Needs z v w) (sym g.is_graph) n

  needs_back : (v w : ℕ) → graph.Needs b.graph v w → graph.Needs a.graph v w
  needs_back v w n = subst (λ (z : Shape). graph.Needs z v w) g.is_graph n

  done_by : (v : ℕ) → v < length x.tasks → (v ≡ u) ⊎ (v ≡ u → ⊥)
      → graph.is_done (with_done a.graph u) v ≡ done_status ((progress (h ++ e ∷ [])).status v)
  done_by v l (inl i) =
      let z = k.sized in
      subst (λ (n : ℕ). graph.is_done (with_done a.graph u) n ≡ done_status ((progress (h ++ e ∷ [])).status n)) (sym i)
      (done_itself a.graph.done u (omega (arith, z, in_plan)) ∙ sym d.itself)
  done_by v l (inr i) =
      done_other a.graph.done u v i ∙ k.done_are v l ∙ ap done_status (sym (d.others v i))

  by_number : (v : ℕ) → v < length x.tasks → (progress (h ++ e ∷ [])).status v ≡ is_waiting
      → (v ≡ u) ⊎ (v ≡ u → ⊥) → IsCovered x (h ++ e ∷ []) b seen v
  by_number v l w (inl i) =
      absurd (not_waiting ((progress (h ++ e ∷ [])).status v)
      (subst (λ (n : ℕ). done_status ((progress (h ++ e ∷ [])).status n) ≡ true) (sym i) d.itself) w)
  by_number v l w (inr n) =
      covered_still x h e m a b (λ i j. same_listed a b _ g i ∙ j) needs_more seen v (held v)
      (k.covered v l (sym (d.others v n) ∙ w))
    where
      held : (i : ℕ) → IsHeldUp a.graph i → IsHeldUp b.graph i ⊎ IsWoken x (h ++ e ∷ []) b seen i
      held i j = elim (held_or_needs a.graph u i j) [
        | inl f ↦ inl (subst (λ (z : Shape). IsHeldUp z i) (sym g.is_graph) f)
        | inr f ↦ inr (woken_now x h e m a b (λ p q. same_listed a b _ g p ∙ q) needs_more seen i u k.within d.wakes
            (inr (needs_more i u f)))
      ]

  pub done_agenda : IsKept x s tasks (h ++ e ∷ []) b seen
  done_agenda = record {
    is_legal = legal_more x h e k.is_legal m;
    is_seen = seen_more;
    scopes = scopes_more;
    tasks_are = k.tasks_are;
    agenda_of = ap (λ (l : List Bool). length l) g.kinds ∙ k.agenda_of;
    kinds_are = λ v task i. ap (λ (l : List Bool). lists.is_scope l v) g.kinds ∙ k.kinds_are v task i;
    sized = ap (λ (z : Shape). length z.done) g.is_graph ∙ same_length a.graph.done u ∙ k.sized;
    done_are = λ v l. ap (λ (z : Shape). graph.is_done z v) g.is_graph ∙ done_by v l (cases_eq v u);
    start_needs = λ v w task other i j n. needs_more v w (k.start_needs v w task other i j n);
    needs_are = λ v w n. needed_still x h e m a b (λ i j. same_listed a b _ g i ∙ j) needs_more v w
        (k.needs_are v w (needs_back v w n));
    within = longer_by h e seen k.within;
    covered = λ v l w. by_number v l w (cases_eq v u);
  }
