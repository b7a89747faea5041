-- How a deployment has ended.
use Rattle.std.proofs.Common.{◌≡◌, inl, inr, ℕ, zero, suc, ◌<◌, ◌≤◌, ◌+◌, Bool, true, false, true≢false, List, []}
use Rattle.std.proofs.Common.{◌∷◌, length, get_or, Option, Some, None, refl, sym, ap, subst, ◌∙◌, arith}
use Rattle.std.specs.Prelude.{slice_index, slice_index_or, option_map, replicate, not, All, if◌then◌else◌}
use Rattle.std.specs.Prelude.{Result, Ok, Err, IfOk, is_ok}
use Rattle.std.specs.declared.alloc.AllocError.{AllocError}
use Rattle.std.specs.declared.alloc.Global.{Global}
use Rattle.std.specs.declared.vec.Vec.{Vec}
use Rattle.std.proofs.lemmas.Bool.{cases_eq}
use Rattle.std.proofs.lemmas.List.{length-set}
use Rattle.std.proofs.lemmas.Option.{slice_get_within}
use Rattle.depend_graph.specs.Shape.{Shape, times, undone, Needs, is_done, with_edge, Chain, IsCircle}
use Rattle.depend_graph.specs.Orders.{IsOrder, IsSorted}
use Rattle.depend_graph.specs.declared.order.Sorted.{Sorted}
use Rattle.depend_graph.specs.declared.order.Sorted.TheVariants as sorted
use Rattle.depend_graph.proofs.Keeping.{get_or-replicate, length-replicate}
use Rattle.plan_cells.specs.Known.{Table}
use Rattle.plan_cells.specs.Tasks.{Task}
use Rattle.deploy_histories.specs.Planned.{Planned}
use Rattle.deploy_histories.specs.Events.{Event, Progress, progress, Status, is_waiting, is_begun, is_done as done_by}
use Rattle.deploy_histories.specs.Events.{done_status, NoneBegun}
use Rattle.deploy_histories.specs.Points.{IsKnownThen, IsTableOf}
use Rattle.deploy_histories.specs.Readiness.{needs_now, at_fault}
use Rattle.deploy_histories.specs.Readiness as readiness
use Rattle.deploy_histories.specs.Endings as endings
use Rattle.deploy_histories.specs.Endings.{AtLeast, Stands}
use Rattle.deploy_histories.specs.Legal.{AllDone, NothingMay, HasEnded}
use Rattle.task_standings.specs.Standings as standings
use Rattle.task_standings.specs.declared.standing.TaskFault.{TaskFault}
use Rattle.task_standings.specs.declared.standing.Failing.{Failing}
use Rattle.task_standings.specs.declared.standing.Failing.TheVariants as failing
use Rattle.task_standings.specs.Failures.{IsFaulty, NeedsUndone, Tells, TellsFault, IsFailing}
use Rattle.task_standings.specs.Outputs.{AreOutputs}
use Rattle.task_standings.specs.declared.standing.RootOutput.{RootOutput}
use Rattle.task_agenda.specs.declared.agenda.Agenda.{Agenda}
use Rattle.board_dealing.specs.Kept.{IsKept}
use Rattle.deploy_core.specs.declared.ending.Ending.{Ending}
use Rattle.deploy_core.specs.declared.ending.Ending.TheVariants.{Succeeded, Refused, Faulty, Circular}
use Rattle.deploy_core.specs.Endings.{NeedInTurn, IsCircular, HasTurns, IsTrueEnding, IsRefusedEnding, IsUndoneNeed}
use Rattle.deploy_core.specs.Endings.{IsTurn, AreTurns, HasOutputs}
use Rattle.board_dealing.proofs.Edges.{edge_to, edge_from}
use Rattle.deploy_core.proofs.OpenLemmas.{there, none_needed}
use Rattle.board_dealing.proofs.Undone.{itself}

-- ---- the first number of a list that is not done

abbrev IsUndoneIn : List Bool → List ℕ → ℕ → Type 0
IsUndoneIn d ns v = (1 ≤ times ns v) × (slice_index_or d v false ≡ false)

first_by : (d : List Bool) (n : ℕ) (ns : List ℕ) (b : Bool) → slice_index_or d n false ≡ b
    → (0 < length (undone d ns) → IsUndoneIn d ns (get_or (undone d ns) 0 0))
    → 0 < length (if not b then n ∷ undone d ns else undone d ns)
    → IsUndoneIn d (n ∷ ns) (get_or (if not b then n ∷ undone d ns else undone d ns) 0 0)
first_by d n ns false e rest l = (itself n ns, e)
first_by d n ns true e rest l = let r = rest l in ((let i = r.0 in omega (arith, i)), r.1)

pub first_undone : (d : List Bool) (ns : List ℕ) → 0 < length (undone d ns)
    → (1 ≤ times ns (get_or (undone d ns) 0 0)) × (slice_index_or d (get_or (undone d ns) 0 0) false ≡ false)
first_undone d [] l = absurd (omega (arith, l))
first_undone d (n ∷ ns) l = first_by d n ns (slice_index_or d n false) refl (λ i. first_undone d ns i) l

-- ---- a task that is not done

waits_by : (p : Progress) (u : ℕ) → NoneBegun p → done_status (p.status u) ≡ false → (s : Status) → p.status u ≡ s
    → p.status u ≡ is_waiting
waits_by p u none d is_waiting e = e
waits_by p u none d (is_begun w b) e = absurd (none u (w, (b, e)))
waits_by p u none d (done_by o) e = absurd (true≢false (sym (ap done_status e) ∙ d))

-- where no Begin is open, it waits
pub undone_waits : (p : Progress) → NoneBegun p → (u : ℕ) → done_status (p.status u) ≡ false → p.status u ≡ is_waiting
undone_waits p none u d = waits_by p u none d (p.status u) refl

-- where no answer has refused, nothing more may come
pub nothing_comes : (x : Planned) (p : Progress) → HasEnded x p → p.refusal ≡ None → (u : ℕ) → u < length x.tasks
    → done_status (p.status u) ≡ false → NothingMay x p
nothing_comes x p e r u l d = elim e.no_more [
  | inl n ↦ absurd (n r)
  | inr o ↦ elim o [
    | inl a ↦ (let t = there x.tasks u l in absurd (true≢false (sym (a u t.0 t.1) ∙ d)))
    | inr n ↦ n
  ]
]

-- what the agenda has as a need that is not done is one by all that is known
pub need_by_all : ((x : Planned) (p : Progress) (t : Table) → IsTableOf x p t → (task giver : Task)
    → standings.Needs x p task giver → needs_now x t task giver ≡ true)
    → (x : Planned) (t : Table) (tasks : ℕ) (h : List Event) (a : Agenda) (seen : ℕ) → IsKept x t tasks h a seen
    → (u v : ℕ) → done_status ((progress h).status u) ≡ false → Needs a.graph u v → is_done a.graph v ≡ false
    → NeedsUndone x (progress h) u v
need_by_all law x t tasks h a seen k u v d n e =
    let m = k.needs_are u v n in
    record {
      task = m.task;
      is_task = m.is_task;
      other = m.other;
      is_other = m.is_other;
      is_undone = d;
      other_undone = sym (k.done_are v (slice_get_within x.tasks v m.other m.is_other)) ∙ e;
      by_all = λ s i. law x (progress h) s i m.task m.other m.needs;
    }

-- ---- what each task needs

module _ (x : Planned) (p : Progress) where
  pub no_turns : (g : Shape) (n : ℕ) → n ≡ length x.tasks
      → g ≡ record { needs = replicate n []; done = replicate n false } → HasTurns x p 0 g
  no_turns g n e is = record {
    size = ap (λ (s : Shape). length s.needs) is ∙ length-replicate {A = List ℕ} n [] ∙ e;
    none_done = λ u. ap (λ (s : Shape). is_done s u) is ∙ get_or-replicate n u false;
    each = λ u l d. absurd (omega (arith, l));
    are = λ u v m. absurd (none_needed n u v (replicate n false) (subst (λ (s : Shape). Needs s u v) is m));
  }

  pub turns_done : (g : Shape) (n : ℕ) → HasTurns x p n g → done_status (p.status n) ≡ true → HasTurns x p (suc n) g
  turns_done g n t done = record {
    size = t.size;
    none_done = t.none_done;
    each = λ u l d. elim (cases_eq u n) [
      | inl e ↦ absurd (true≢false (sym done ∙ sym (ap (λ (k : ℕ). done_status (p.status k)) e) ∙ d))
      | inr e ↦ t.each u (omega (arith, l, e)) d
    ];
    are = t.are;
  }

  pub turns_more : (g h : Shape) (n v : ℕ) → HasTurns x p n g → n < length x.tasks → NeedsUndone x p n v
      → h ≡ with_edge g n v → HasTurns x p (suc n) h
  turns_more g h n v t l needs is = subst (λ (s : Shape). HasTurns x p (suc n) s) (sym is) (record {
    size = length-set g.needs n _ ∙ t.size;
    none_done = t.none_done;
    each = λ u m d. elim (cases_eq u n) [
      | inl e ↦ (v, edge_to g n v u v within (inr (e, refl)))
      | inr e ↦ (let w = t.each u (omega (arith, m, e)) d in (w.0, edge_to g n v u w.0 within (inl w.1)))
    ];
    are = λ u w m. elim (edge_from g n v u w within m) [
      | inl k ↦ t.are u w k
      | inr e ↦ subst (λ (i : ℕ). NeedsUndone x p i w) (sym e.0)
          (subst (λ (j : ℕ). NeedsUndone x p n j) (sym e.1) needs)
    ];
  })
    where
      within : n < length g.needs
      within = let s = t.size in omega (arith, s, l)

  -- ---- where nodes may be done one after another, every task is done

  module _ (g : Shape) (t : HasTurns x p (length x.tasks) g) (order : List ℕ) (o : IsOrder g order) where
    -- a task of the order that is not done
    record IsLeft (u j : ℕ) : Type 0 where
      within : j < length order
      is : slice_index_or order j 0 ≡ u
      is_task : u < length x.tasks
      is_undone : done_status (p.status u) ≡ false

    step : (k : ℕ) → ((u j : ℕ) → j < k → IsLeft u j → ⊥) → (u j : ℕ) → j < suc k → IsLeft u j → ⊥
    step k rest u j l i =
        let n = t.each u i.is_task i.is_undone in
        let r = t.are u n.0 n.1 in
        elim (o.in_turn j n.0 i.within (subst (λ (w : ℕ). Needs g w n.0) (sym i.is) n.1)) [
          | inl d ↦ true≢false (sym d ∙ t.none_done n.0)
          | inr m ↦ rest n.0 m.0 (let s = m.1 in omega (arith, s, l)) (record {
            within = (let s = m.1 in let w = i.within in omega (arith, s, w));
            is = m.2;
            is_task = slice_get_within x.tasks n.0 r.other r.is_other;
            is_undone = r.other_undone;
          })
        ]

    none_left : (k u j : ℕ) → j < k → IsLeft u j → ⊥
    none_left zero u j l i = absurd (omega (arith, l))
    none_left (suc k) u j l i = step k (λ v m n w. none_left k v m n w) u j l i

    done_by_order : (u : ℕ) → u < length x.tasks → (b : Bool) → done_status (p.status u) ≡ b
        → done_status (p.status u) ≡ true
    done_by_order u l true e = e
    done_by_order u l false e = absurd (elim (o.all u (let s = t.size in omega (arith, s, l))) [
      | inl d ↦ true≢false (sym d ∙ t.none_done u)
      | inr m ↦ none_left (length order) u m.0 m.1
          (record { within = m.1; is = m.2; is_task = l; is_undone = e })
    ])

    pub all_done : AllDone x p
    all_done u task is = done_by_order u (slice_get_within x.tasks u task is) (done_status (p.status u)) refl

  -- ---- a circle of nodes is one of tasks

  module _ (g : Shape) (n : ℕ) (t : HasTurns x p n g) where
    chain_of : (u : ℕ) (us : List ℕ) (end : ℕ) → Chain g (u ∷ us) end → NeedInTurn x p u us end
    chain_of u [] end c = t.are u end c.1
    chain_of u (v ∷ vs) end c = (t.are u v c.1, chain_of v vs end c.2)

    least_of : (u : ℕ) (us : List ℕ) → ((k d : ℕ) → k < length us → u ≤ slice_index_or us k d) → AtLeast x p u us
    least_of u [] f = tt
    least_of u (v ∷ vs) f = (f 0 0 (omega arith), least_of u vs (λ k d l. f (suc k) d (omega (arith, l))))

    pub circle_of : (us : List ℕ) → IsCircle g us → All (λ v. slice_index us 0 ≤ v) us → IsCircular x p us
    circle_of [] c f = absurd c
    circle_of (u ∷ us) c f = (chain_of u us u c, least_of u us (λ k d l. f (suc k) d (omega (arith, l))))

  -- ---- an ending by all that is known

  module _ (t : Table) (table : IsTableOf x p t) where
    pub stands_at_fault : (u : ℕ) (f : readiness.Fault) → IsFaulty x p u f → Stands x p u (at_fault f)
    stands_at_fault u f i = record {
      task = i.task;
      is_task = i.is_task;
      known = t;
      is_table = table;
      is = i.by_all t table;
    }

    needs_there : (u v : ℕ) → NeedsUndone x p u v → endings.NeedsUndone x p u v
    needs_there u v n = record {
      task = n.task;
      other = n.other;
      is_task = n.is_task;
      is_other = n.is_other;
      is_undone = n.is_undone;
      known = t;
      is_table = table;
      is_needed = n.by_all t table;
    }

    turns_there : (u : ℕ) (us : List ℕ) (end : ℕ) → NeedInTurn x p u us end → endings.NeedInTurn x p u us end
    turns_there u [] end n = needs_there u end n
    turns_there u (v ∷ vs) end n = (needs_there u v n.0, turns_there v vs end n.1)

    pub is_circle_there : (u : ℕ) (us : List ℕ) → IsCircular x p (u ∷ us)
        → endings.IsEnding x p (endings.circular u us)
    is_circle_there u us i = (turns_there u us u i.0, i.1)

-- ---- what is returned

pub refusal_is : {A B : Type 0} (f : A → B) (o : Option A) (a : A) (r : Option B) → option_map f o ≡ r → o ≡ Some a
    → r ≡ Some (f a)
refusal_is f o a r e i = sym e ∙ ap (option_map f) i

pub no_refusal : {A B : Type 0} (f : A → B) (o : Option A) (r : Option B) → option_map f o ≡ r → o ≡ None → r ≡ None
no_refusal f o r e i = sym e ∙ ap (option_map f) i

module _ (tells : Tells) (x : Planned) (p : Progress) where
  pub found_need : (a : Agenda) (u : ℕ) (r : Result Failing AllocError)
      → ((v : ℕ) → Needs a.graph u v → is_done a.graph v ≡ false → NeedsUndone x p u v)
      → IfOk r (IsUndoneNeed a u) → IfOk r (IsFailing tells x p u)
  found_need a u (Ok (failing.Needs v)) f i = f v i.0 i.1
  found_need a u (Ok (failing.Faulty said)) f i = absurd i
  found_need a u (Err e) f i = tt

  pub is_faulty : (u : ℕ) (f : Failing) (said : TaskFault) → f ≡ failing.Faulty said → IsFailing tells x p u f
      → TellsFault tells x p u said
  is_faulty u f said e i = subst (λ (k : Failing). IsFailing tells x p u k) e i

  pub is_needed : (u : ℕ) (f : Failing) (v : ℕ) → f ≡ failing.Needs v → IsFailing tells x p u f → NeedsUndone x p u v
  is_needed u f v e i = subst (λ (k : Failing). IsFailing tells x p u k) e i

  pub needed_within : (u v : ℕ) → NeedsUndone x p u v → v < length x.tasks
  needed_within u v n = slice_get_within x.tasks v n.other n.is_other

  pub turn_so : (y : Planned) → y ≡ x → (u : ℕ) (g : Shape) (o s : Option TaskFault) → o ≡ s → IsTurn tells y p u g o
      → IsTurn tells x p u g s
  turn_so y e u g o s i t =
      subst (λ (k : Option TaskFault). IsTurn tells x p u g k) i
      (subst (λ (z : Planned). IsTurn tells z p u g o) e t)

  pub turn_none : (y : Planned) → y ≡ x → (u : ℕ) (g : Shape) (o : Option TaskFault)
      → ((said : TaskFault) → o ≡ Some said → ⊥) → IsTurn tells y p u g o → HasTurns x p (u + 1) g
  turn_none y e u g (Some said) n t = absurd (n said refl)
  turn_none y e u g None n t =
      subst (λ (k : ℕ). HasTurns x p k g) (omega arith)
      (subst (λ (z : Planned). HasTurns z p (suc u) g) e t)

  pub turns_so : (g : Shape) (o s : Option (ℕ × TaskFault)) → o ≡ s → AreTurns tells x p g o → AreTurns tells x p g s
  turns_so g o s i t = subst (λ (k : Option (ℕ × TaskFault)). AreTurns tells x p g k) i t

  -- where each task that is not done needs one that is not, an order of the graph says that each is done
  pub done_in_turn : (g : Shape) (s : Sorted) (order : Vec ℕ Global) → s ≡ sorted.Order order
      → HasTurns x p (length x.tasks) g → IsSorted g s → AllDone x p
  done_in_turn g s order e t i =
      all_done x p g t order.items (subst (λ (k : Sorted). IsSorted g k) e i)

  pub circle_in_turn : (g : Shape) (s : Sorted) (us : Vec ℕ Global) → s ≡ sorted.Circle us
      → HasTurns x p (length x.tasks) g → IsSorted g s → IsCircular x p us.items
  circle_in_turn g s us e t i =
      let c = subst (λ (k : Sorted). IsSorted g k) e i in
      circle_of x p g (length x.tasks) t us.items c.0 c.1

  -- the outputs that are known are those by all that is known
  pub success_is : (t : Table) → IsKnownThen x p t → AllDone x p
      → ((y : Planned) (q : Progress) (s a : Table) → IsKnownThen y q s → IsTableOf y q a → (os : List RootOutput)
      → AreOutputs y s os → AreOutputs y a os) → (r : Result Ending AllocError) → IfOk r (HasOutputs x t)
      → IfOk r (IsTrueEnding tells x p)
  success_is t k d law (Ok (Succeeded os)) h = (d, λ a i. law x p t a k i os.items h)
  success_is t k d law (Ok (Refused u code)) h = absurd h
  success_is t k d law (Ok (Faulty u said)) h = absurd h
  success_is t k d law (Ok (Circular us)) h = absurd h
  success_is t k d law (Err e) h = tt

  -- the same of another plan that is the same
  pub ending_of : (y : Planned) → y ≡ x → (r : Result Ending AllocError) → IfOk r (IsTrueEnding tells y p)
      → IfOk r (IsTrueEnding tells x p)
  ending_of y e r i = subst (λ (z : Planned). IfOk r (IsTrueEnding tells z p)) e i

  pub end_refused : (o : Option Ending) (e : Ending) → o ≡ Some e → IsRefusedEnding p o → IsTrueEnding tells x p e
  end_refused o (Refused u code) i r = subst (λ (k : Option Ending). IsRefusedEnding p k) i r
  end_refused o (Succeeded os) i r = absurd (subst (λ (k : Option Ending). IsRefusedEnding p k) i r)
  end_refused o (Faulty u said) i r = absurd (subst (λ (k : Option Ending). IsRefusedEnding p k) i r)
  end_refused o (Circular us) i r = absurd (subst (λ (k : Option Ending). IsRefusedEnding p k) i r)

pub turns_of : (x y : Planned) (p : Progress) (g : Shape) → x ≡ y → HasTurns y p (length y.tasks) g
    → HasTurns x p (length x.tasks) g
turns_of x y p g e t = subst (λ (z : Planned). HasTurns z p (length z.tasks) g) (sym e) t

pub edge_added : (old new : Shape) (n v : ℕ) (r : Result (Unit {0}) AllocError) (o : Unit {0}) → r ≡ Ok o
    → new ≡ (if is_ok r then with_edge old n v else old) → new ≡ with_edge old n v
edge_added old new n v r o e i =
    subst (λ (s : Result (Unit {0}) AllocError). new ≡ (if is_ok s then with_edge old n v else old)) e i

pub not_refused : (p : Progress) (o : Option Ending) → o ≡ None → IsRefusedEnding p o → p.refusal ≡ None
not_refused p o i r = subst (λ (k : Option Ending). IsRefusedEnding p k) i r
