-- What a board keeps once its agenda has changed and nothing has happened.
use Rattle.std.proofs.Common.{◌≡◌, ◌⊎◌, inl, inr, ℕ, zero, suc, ◌<◌, ◌≤◌, ◌+◌, Bool, false}
use Rattle.std.proofs.Common.{List, length}
use Rattle.std.proofs.Common.{Some, refl, sym, ap, subst, ◌∙◌, arith}
use Rattle.std.specs.Prelude.{slice_get}
use Rattle.std.specs.BTreeSet.{BTreeSet}
use Rattle.std.proofs.lemmas.Option.{slice_get_within, same_Some}
use Rattle.std.proofs.lemmas.Bool.{cases_eq}
use Rattle.depend_graph.specs.Shape as graph
use Rattle.depend_graph.specs.Shape.{Shape, with_edge}
use Rattle.depend_graph.proofs.Keeping.{other_test}
use Rattle.plan_cells.specs.Known.{Table}
use Rattle.deploy_histories.specs.Planned.{Planned}
use Rattle.deploy_histories.specs.Events.{Event, progress, is_waiting}
use Rattle.task_standings.specs.Seen.{IsSeen}
use Rattle.reading.specs.Knowledge.{Grows}
use Rattle.task_standings.proofs.Lasting.{scopes_stay}
use Rattle.task_agenda.specs.declared.agenda.Agenda.{Agenda}
use Rattle.task_agenda.specs.Agendas.{is_listed, IsSame, IsSeenTo, Keeps, HasGraph, TakesOff}
use Rattle.task_agenda.specs.Lists as lists
use Rattle.task_agenda.specs.Lists.{IsHeldUp}
use Rattle.board_dealing.specs.Kept.{waker, IsNeeded, IsWoken, IsStuckTask, IsCovered, IsKept}
use Rattle.board_dealing.specs.Looks.{IsHeard}
use Rattle.board_dealing.proofs.Undone.{undone_need}
use Rattle.board_dealing.proofs.Edges.{undone_there, edge_to, edge_from, edge_holds}

pub later_than : (s p : ℕ) → s ≤ p → (p ≡ s → ⊥) → s + 1 ≤ p
later_than zero zero g n = absurd (n refl)
later_than zero (suc p) g n = omega arith
later_than (suc s) zero g n = absurd (omega (arith, g))
later_than (suc s) (suc p) g n =
    omega (arith, later_than s p (omega (arith, g)) (λ e. n (ap (λ (k : ℕ). suc k) e)))

-- where lists are the same, the same tasks are listed
pub same_listed : (a b : Agenda) (g : Shape) → HasGraph a b g → (u : ℕ) → is_listed b u ≡ is_listed a u
same_listed a b g h u =
    ap (λ (k : List Bool). lists.is_listed_in k b.scopes b.acts u) h.kinds
    ∙ ap (λ (s : BTreeSet ℕ). lists.is_listed_in a.kinds.items s b.acts u) h.scopes
    ∙ ap (λ (s : BTreeSet ℕ). lists.is_listed_in a.kinds.items a.scopes s u) h.acts

module _ (x : Planned) (h : List Event) (a b : Agenda) where
  pub needed_so : (u v : ℕ) → IsNeeded x h a u v → IsNeeded x h b u v
  needed_so u v n = record {
    task = n.task;
    is_task = n.is_task;
    other = n.other;
    is_other = n.is_other;
    needs = n.needs;
  }

  pub stuck_so : (u : ℕ) → IsStuckTask x h a u → IsStuckTask x h b u
  stuck_so u s = record { task = s.task; is_task = s.is_task; is_stuck = s.is_stuck }

  pub woken_so : ((u v : ℕ) → graph.Needs a.graph u v → graph.Needs b.graph u v) → (seen u : ℕ)
      → IsWoken x h a seen u → IsWoken x h b seen u
  woken_so needs seen u w = record {
    place = w.place;
    from = w.from;
    happened = w.happened;
    is_there = w.is_there;
    waking = w.waking;
    wakes = w.wakes;
    is_concerned = elim w.is_concerned [ inl i ↦ inl i | inr n ↦ inr (needs u w.waking n) ];
  }

module _ (x : Planned) (t : Table) (tasks : ℕ) (h : List Event) (a : Agenda) (seen : ℕ)
    (k : IsKept x t tasks h a seen) where
  -- something else is known, which is seen too
  pub kept_knowing : (s : Table) → IsSeen x (progress h) s → Grows t s → IsKept x s tasks h a seen
  kept_knowing s i g = record {
    is_legal = k.is_legal;
    is_seen = i;
    scopes = λ u d. scopes_stay x t s g u (k.scopes u d);
    tasks_are = k.tasks_are;
    agenda_of = k.agenda_of;
    kinds_are = k.kinds_are;
    sized = k.sized;
    done_are = k.done_are;
    start_needs = k.start_needs;
    needs_are = k.needs_are;
    within = k.within;
    covered = k.covered;
  }

  -- the tasks are the same, and so is what they need and which are done
  pub kept_covered : (b : Agenda) (later : ℕ) → IsSame a b → later ≤ length h
      → ((u : ℕ) → u < length x.tasks → (progress h).status u ≡ is_waiting → IsCovered x h b later u)
      → IsKept x t tasks h b later
  kept_covered b later e w c = record {
    is_legal = k.is_legal;
    is_seen = k.is_seen;
    scopes = k.scopes;
    tasks_are = k.tasks_are;
    agenda_of = ap (λ (l : List Bool). length l) e.kinds ∙ k.agenda_of;
    kinds_are = λ u task i. ap (λ (l : List Bool). lists.is_scope l u) e.kinds ∙ k.kinds_are u task i;
    sized = ap (λ (g : Shape). length g.done) e.graph ∙ k.sized;
    done_are = λ u l. ap (λ (g : Shape). graph.is_done g u) e.graph ∙ k.done_are u l;
    start_needs = λ u v task other i j n. subst (λ (g : Shape). graph.Needs g u v) (sym e.graph)
        (k.start_needs u v task other i j n);
    needs_are = λ u v n. needed_so x h a b u v
        (k.needs_are u v (subst (λ (g : Shape). graph.Needs g u v) e.graph n));
    within = w;
    covered = c;
  }

  -- a task is taken off the list that is covered without that
  pub kept_without : (b : Agenda) (u : ℕ) → TakesOff a b u
      → ((progress h).status u ≡ is_waiting → IsCovered x h b seen u) → IsKept x t tasks h b seen
  kept_without b u o c =
      kept_covered b seen o.same k.within (λ v l w. by_number v l w (cases_eq v u))
    where
      held : (v : ℕ) → IsHeldUp a.graph v → IsHeldUp b.graph v
      held v i = subst (λ (g : Shape). IsHeldUp g v) (sym o.same.graph) i

      needs : (v w : ℕ) → graph.Needs a.graph v w → graph.Needs b.graph v w
      needs v w n = subst (λ (g : Shape). graph.Needs g v w) (sym o.same.graph) n

      still : (v : ℕ) → (v ≡ u → ⊥) → IsCovered x h a seen v → IsCovered x h b seen v
      still v n (inl (inl i)) = inl (inl (o.others v (other_test v u (λ e. n (sym e))) ∙ i))
      still v n (inl (inr i)) = inl (inr (held v i))
      still v n (inr (inl i)) = inr (inl (woken_so x h a b needs seen v i))
      still v n (inr (inr i)) = inr (inr (stuck_so x h a b v i))

      by_number : (v : ℕ) → v < length x.tasks → (progress h).status v ≡ is_waiting → (v ≡ u) ⊎ (v ≡ u → ⊥)
          → IsCovered x h b seen v
      by_number v l w (inl e) =
          subst (λ (n : ℕ). IsCovered x h b seen n) (sym e)
          (c (subst (λ (n : ℕ). (progress h).status n ≡ is_waiting) e w))
      by_number v l w (inr n) = still v n (k.covered v l w)

  -- the task is held up
  pub held_so : (b : Agenda) (u : ℕ) → TakesOff a b u → IsHeldUp a.graph u → IsCovered x h b seen u
  held_so b u o i = inl (inr (subst (λ (g : Shape). IsHeldUp g u) (sym o.same.graph) i))

  -- more tasks are listed, and the event that was the next one is looked at
  module _ (b : Agenda) (e : Keeps a b) where
    needs_of_same : (v w : ℕ) → graph.Needs a.graph v w → graph.Needs b.graph v w
    needs_of_same v w n = subst (λ (g : Shape). graph.Needs g v w) (sym e.same.graph) n

    seen_to_still : (later u : ℕ) → IsSeenTo a u → IsCovered x h b later u
    seen_to_still later u (inl i) = inl (inl (e.listed u i))
    seen_to_still later u (inr i) = inl (inr (subst (λ (g : Shape). IsHeldUp g u) (sym e.same.graph) i))

    pub kept_listing : IsKept x t tasks h b seen
    kept_listing = kept_covered b seen e.same k.within (λ u l w. still u (k.covered u l w))
      where
        still : (u : ℕ) → IsCovered x h a seen u → IsCovered x h b seen u
        still u (inl i) = seen_to_still seen u i
        still u (inr (inl i)) = inr (inl (woken_so x h a b needs_of_same seen u i))
        still u (inr (inr i)) = inr (inr (stuck_so x h a b u i))

    pub kept_looking : (f : Event) → slice_get h seen ≡ Some f
        → IsHeard b f → seen + 1 ≤ length h → IsKept x t tasks h b (seen + 1)
    kept_looking f there woken w =
        kept_covered b (seen + 1) e.same w (λ u l i. still u (k.covered u l i))
      where
        concerned : (u : ℕ) (i : IsWoken x h a seen u) → waker f ≡ Some i.waking → IsSeenTo b u
        concerned u i s = elim i.is_concerned [
          | inl j ↦ subst (λ (n : ℕ). IsSeenTo b n) j (woken i.waking s).itself
          | inr n ↦ (woken i.waking s).others u (needs_of_same u i.waking n)
        ]

        by_place : (u : ℕ) (i : IsWoken x h a seen u) → (i.place ≡ seen) ⊎ (i.place ≡ seen → ⊥)
            → IsCovered x h b (seen + 1) u
        by_place u i (inl s) =
            let at : slice_get h seen ≡ Some i.happened
            = subst (λ (n : ℕ). slice_get h n ≡ Some i.happened) s i.is_there in
            let same : f ≡ i.happened = same_Some f i.happened (sym there ∙ at) in
            inl (concerned u i (ap waker same ∙ i.wakes))
        by_place u i (inr n) = inr (inl (record {
          place = i.place;
          from = (let g = i.from in later_than seen i.place g n);
          happened = i.happened;
          is_there = i.is_there;
          waking = i.waking;
          wakes = i.wakes;
          is_concerned = elim i.is_concerned [ inl j ↦ inl j | inr m ↦ inr (needs_of_same u i.waking m) ];
        }))

        still : (u : ℕ) → IsCovered x h a seen u → IsCovered x h b (seen + 1) u
        still u (inl i) = seen_to_still (seen + 1) u i
        still u (inr (inl i)) = by_place u i (cases_eq i.place seen)
        still u (inr (inr i)) = inr (inr (stuck_so x h a b u i))

  -- one need of a task more
  module _ (b : Agenda) (u v : ℕ) (g : HasGraph a b (with_edge a.graph u v)) (n : IsNeeded x h a u v) where
    within_graph : u < length a.graph.needs
    within_graph =
        let s = a.sizes in let c = k.agenda_of in
        let l = slice_get_within x.tasks u n.task n.is_task in omega (arith, s, c, l)

    needs_more : (i j : ℕ) → graph.Needs a.graph i j → graph.Needs b.graph i j
    needs_more i j m =
        subst (λ (s : Shape). graph.Needs s i j) (sym g.is_graph) (edge_to a.graph u v i j within_graph (inl m))

    done_same : (i : ℕ) → graph.is_done b.graph i ≡ graph.is_done a.graph i
    done_same i = ap (λ (s : Shape). graph.is_done s i) g.is_graph

    held_still : (i : ℕ) → IsHeldUp a.graph i → IsHeldUp b.graph i
    held_still i m =
        let r = undone_need a.graph i m in
        undone_there b.graph.done (graph.needs_of b.graph i) r.need (needs_more i r.need r.is_need)
        (done_same r.need ∙ r.is_undone)

    -- the task is held up, where that one is not done
    pub held_now : graph.is_done a.graph v ≡ false → IsHeldUp b.graph u
    held_now e = subst (λ (s : Shape). IsHeldUp s u) (sym g.is_graph) (edge_holds a.graph u v within_graph e)

    in_old : (i j : ℕ) → graph.Needs b.graph i j → graph.Needs (with_edge a.graph u v) i j
    in_old i j m = subst (λ (s : Shape). graph.Needs s i j) g.is_graph m

    needs_back : (i j : ℕ) → graph.Needs b.graph i j → IsNeeded x h b i j
    needs_back i j m = elim (edge_from a.graph u v i j within_graph (in_old i j m)) [
      | inl o ↦ needed_so x h a b i j (k.needs_are i j o)
      | inr e ↦ subst (λ (p : ℕ). IsNeeded x h b p j) (sym e.0)
          (subst (λ (p : ℕ). IsNeeded x h b u p) (sym e.1) (needed_so x h a b u v n))
    ]

    still : (i : ℕ) → IsCovered x h a seen i → IsCovered x h b seen i
    still i (inl (inl l)) = inl (inl (same_listed a b _ g i ∙ l))
    still i (inl (inr m)) = inl (inr (held_still i m))
    still i (inr (inl w)) = inr (inl (woken_so x h a b needs_more seen i w))
    still i (inr (inr s)) = inr (inr (stuck_so x h a b i s))

    pub kept_needing : IsKept x t tasks h b seen
    kept_needing = record {
      is_legal = k.is_legal;
      is_seen = k.is_seen;
      scopes = k.scopes;
      tasks_are = k.tasks_are;
      agenda_of = ap (λ (l : List Bool). length l) g.kinds ∙ k.agenda_of;
      kinds_are = λ i task j. ap (λ (l : List Bool). lists.is_scope l i) g.kinds ∙ k.kinds_are i task j;
      sized = ap (λ (s : Shape). length s.done) g.is_graph ∙ k.sized;
      done_are = λ i l. done_same i ∙ k.done_are i l;
      start_needs = λ i j task other p q m. needs_more i j (k.start_needs i j task other p q m);
      needs_are = needs_back;
      within = k.within;
      covered = λ i l w. still i (k.covered i l w);
    }

  -- the lists and the graph are the same
  pub kept_same : (b : Agenda) → HasGraph a b a.graph → IsKept x t tasks h b seen
  kept_same b g = kept_covered b seen (record { kinds = g.kinds; graph = g.is_graph }) k.within
      (λ u l w. still u (k.covered u l w))
    where
      held : (u : ℕ) → IsHeldUp a.graph u → IsHeldUp b.graph u
      held u i = subst (λ (s : Shape). IsHeldUp s u) (sym g.is_graph) i

      needs : (u v : ℕ) → graph.Needs a.graph u v → graph.Needs b.graph u v
      needs u v n = subst (λ (s : Shape). graph.Needs s u v) (sym g.is_graph) n

      still : (u : ℕ) → IsCovered x h a seen u → IsCovered x h b seen u
      still u (inl (inl l)) = inl (inl (same_listed a b _ g u ∙ l))
      still u (inl (inr i)) = inl (inr (held u i))
      still u (inr (inl w)) = inr (inl (woken_so x h a b needs seen u w))
      still u (inr (inr s)) = inr (inr (stuck_so x h a b u s))
