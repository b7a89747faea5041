-- What a board keeps where it looks at a task.
use Rattle.std.proofs.Common.{◌≡◌, ◌⊎◌, inl, inr, ℕ, ◌<◌, ◌+◌, Bool, true, false, true≢false}
use Rattle.std.proofs.Common.{List, length}
use Rattle.std.proofs.Common.{Option, Some, None, refl, sym, ap, subst, ◌∙◌, arith}
use Rattle.std.specs.Prelude.{slice_get, Result, Ok, Err, IfOk, is_ok, if◌then◌else◌}
use Rattle.std.specs.declared.alloc.AllocError.{AllocError}
use Rattle.std.specs.BTreeSet.{BTreeSet, btree_set_len}
use Rattle.std.proofs.lemmas.Option.{slice_get_within}
use Rattle.std.proofs.lemmas.Bool.{cases_eq}
use Rattle.arm_value.specs.Json.{Json, null}
use Rattle.arm_value.specs.View.{json}
use Rattle.arm_value.specs.declared.value.Value.{Value}
use Rattle.depend_graph.specs.Shape as graph
use Rattle.depend_graph.specs.Shape.{Shape, undone_needs, with_edge}
use Rattle.depend_graph.proofs.Keeping.{other_test}
use Rattle.plan_cells.specs.Known.{Table}
use Rattle.plan_cells.specs.Tasks as task
use Rattle.plan_cells.specs.Tasks.{Task}
use Rattle.deploy_histories.specs.Planned.{Planned}
use Rattle.deploy_histories.specs.Events.{Event, Progress, progress, Status, is_waiting, is_begun, is_done, done_status}
use Rattle.deploy_histories.specs.Readiness.{readiness, ready}
use Rattle.deploy_histories.specs.Values.{body_of}
use Rattle.deploy_histories.proofs.ReadinessLemmas.{ready_says}
use Rattle.board_history.specs.Stages.{begun_status}
use Rattle.task_standings.specs.declared.standing.Standing.{Standing}
use Rattle.task_standings.specs.declared.standing.Standing.TheVariants.{Ready, Waits, Stuck}
use Rattle.task_standings.specs.Standings.{IsStanding, AreStartNeedsDone, FitsTask, Enters, Leaves, IsScopeSeen}
use Rattle.task_agenda.specs.declared.agenda.Agenda.{Agenda}
use Rattle.task_agenda.specs.Agendas.{count, is_scope, is_listed, listed_count, IsFirst, HasGraph, TakesOff}
use Rattle.task_agenda.specs.Lists as lists
use Rattle.board_dealing.specs.Kept.{enters_or_leaves, IsNeeded, IsKept}
use Rattle.board_dealing.specs.Looks.{IsReady, IsPrepared, IsFree, IsOff, NeedsAnother, IsPutOff, IsLooked}
use Rattle.board_dealing.specs.Looks.{IsReadyFirst, NoScopeListed, StaysKept}
use Rattle.board_dealing.proofs.Edges.{undone_there}
use Rattle.board_dealing.proofs.Agendas.{kept_without, kept_needing, kept_same, held_so, held_now}
use Rattle.board_dealing.proofs.Agendas.{same_listed}

-- a task that is neither done nor begun waits
pub waits_by : (s : Status) → done_status s ≡ false → begun_status s ≡ false → s ≡ is_waiting
waits_by is_waiting d b = refl
waits_by (is_begun w c) d b = absurd (true≢false b)
waits_by (is_done o) d b = absurd (true≢false d)

pub done_not_waiting : (s : Status) → done_status s ≡ true → s ≡ is_waiting → ⊥
done_not_waiting s d w = true≢false (sym d ∙ ap done_status w)

pub begun_not_waiting : (s : Status) → begun_status s ≡ true → s ≡ is_waiting → ⊥
begun_not_waiting s b w = true≢false (sym b ∙ ap begun_status w)

none_undone : (g : Shape) (u v : ℕ) → length (undone_needs g u) ≡ 0 → graph.Needs g u v → (b : Bool)
    → graph.is_done g v ≡ b → b ≡ true
none_undone g u v e n true f = refl
none_undone g u v e n false f = let i = undone_there g.done (graph.needs_of g u) v n f in absurd (omega (arith, e, i))

pub off_of : (a b : Agenda) (u : ℕ) → TakesOff a b u → IsOff a b u
off_of a b u o = record { kinds = o.same.kinds; itself = o.itself; others = o.others; fewer = o.fewer }

module _ (x : Planned) (t : Table) (tasks : ℕ) (h : List Event) (a : Agenda) (seen : ℕ)
    (k : IsKept x t tasks h a seen) where
  pub in_agenda : (u : ℕ) → u < length x.tasks → u < count a
  in_agenda u l = let c = k.agenda_of in omega (arith, c, l)

  pub in_plan : (u : ℕ) → u < count a → u < length x.tasks
  in_plan u l = let c = k.agenda_of in omega (arith, c, l)

  -- what it needs at the start is done, where nothing that it is known to need is undone
  pub needs_done : (u : ℕ) → length (undone_needs a.graph u) ≡ 0 → AreStartNeedsDone x (progress h) u
  needs_done u e one v other i j n =
      sym (k.done_are v (slice_get_within x.tasks v other j))
      ∙ none_undone a.graph u v e (k.start_needs u v one other i j n) (graph.is_done a.graph v) refl

  -- a task that waits for none, or is held up, is taken off the list
  pub kept_held : (b : Agenda) (u : ℕ) → TakesOff a b u → IsFree (progress h) a u false → IsKept x t tasks h b seen
  kept_held b u o f =
      kept_without x t tasks h a seen k b u o (λ w. held_so x t tasks h a seen k b u o (f w))

  -- a task of which a value is none is taken off the list
  pub kept_stuck : (b : Agenda) (u : ℕ) → TakesOff a b u → IsStanding x (progress h) t u Stuck
      → IsKept x t tasks h b seen
  kept_stuck b u o s =
      kept_without x t tasks h a seen k b u o (λ w. inr (inr (record {
        task = s.task;
        is_task = s.is_task;
        is_stuck = record { known = t; is_known = k.is_seen.known_then; lacks = s.stands_as };
      })))

  -- a task that waits for another is taken off the list, once the agenda has this need
  module _ (u v : ℕ) (s : IsStanding x (progress h) t u (Waits v)) where
    pub awaited_within : v < length x.tasks
    awaited_within = slice_get_within x.tasks v s.stands_as.1.0 s.stands_as.1.1.0

    awaited : IsNeeded x h a u v
    awaited = record {
      task = s.task;
      is_task = s.is_task;
      other = s.stands_as.1.0;
      is_other = s.stands_as.1.1.0;
      needs = inr (record { known = t; is_known = k.is_seen.known_then; waits_for = s.stands_as.1.1.1 });
    }

    pub kept_put_off : (b : Agenda) → NeedsAnother a b u v → IsKept x t tasks h b seen
    kept_put_off b n =
        kept_without x t tasks h n.between seen
        (kept_needing x t tasks h a seen k n.between u v n.needs awaited) b u n.off
        (λ w. held_so x t tasks h n.between seen
        (kept_needing x t tasks h a seen k n.between u v n.needs awaited) b u n.off
        (held_now x t tasks h a seen k n.between u v n.needs awaited
        (k.done_are v awaited_within ∙ s.stands_as.0)))

  -- the task is ready, by what is known
  pub ready_now : (u : ℕ) (body : Json) (r : (progress h).refusal ≡ None) (one : Task) → slice_get x.tasks u ≡ Some one
      → readiness x t (progress h).status u one ≡ ready body → FitsTask one body → IsReady x (progress h) u body
  ready_now u body r one i e f = record {
    of = one;
    may_start = record {
      unrefused = r;
      is_task = i;
      known = t;
      is_known = k.is_seen.known_then;
      is_ready = e;
    };
    fits = f;
  }

-- the agenda after a need and without the task
pub off_needing : (a b : Agenda) (u v : ℕ) → NeedsAnother a b u v → IsOff a b u
off_needing a b u v n = record {
  kinds = n.off.same.kinds ∙ n.needs.kinds;
  itself = n.off.itself;
  others = λ w e. n.off.others w e ∙ same_listed a n.between _ n.needs w;
  fewer = λ e. less (n.off.fewer (same_listed a n.between _ n.needs u ∙ e));
}
  where
    less : listed_count b < listed_count n.between → listed_count b < listed_count a
    less l = subst (λ (c : ℕ). listed_count b < c) same_count l
      where
        same_count : listed_count n.between ≡ listed_count a
        same_count =
            ap (λ (s : BTreeSet ℕ). btree_set_len s + btree_set_len n.between.acts) n.needs.scopes
            ∙ ap (λ (s : BTreeSet ℕ). btree_set_len a.scopes + btree_set_len s) n.needs.acts

-- the body of a scope is null
scope_body : (x : Planned) (t : Table) (one : Task) → enters_or_leaves one ≡ true → body_of x t one ≡ null
scope_body x t (task.enter p) e = refl
scope_body x t (task.leave p) e = refl
scope_body x t (task.put p s) e = absurd (true≢false (sym e))
scope_body x t (task.delete k) e = absurd (true≢false (sym e))

-- a task of scopes that is ready is ready with null
pub ready_scope_null : (x : Planned) (p : Progress) (u : ℕ) (body : Json) (r : IsReady x p u body)
    → enters_or_leaves r.of ≡ true → IsReady x p u null
ready_scope_null x p u body r e =
    subst (λ (b : Json). IsReady x p u b)
    (sym (ready_says x r.may_start.known p u r.of body r.may_start.is_ready).has_body
    ∙ scope_body x r.may_start.known r.of e) r

-- no task is listed that was not
pub off_lists : (a b : Agenda) (u : ℕ) → IsOff a b u → (v : ℕ) → is_listed a v ≡ false → is_listed b v ≡ false
off_lists a b u o v e = by (cases_eq v u)
  where
    by : (v ≡ u) ⊎ (v ≡ u → ⊥) → is_listed b v ≡ false
    by (inl i) = subst (λ (n : ℕ). is_listed b n ≡ false) (sym i) o.itself
    by (inr n) = o.others v (other_test v u (λ j. n (sym j))) ∙ e

pub off_scope : (a b : Agenda) (u : ℕ) → IsOff a b u → (v : ℕ) → is_scope b v ≡ is_scope a v
off_scope a b u o v = ap (λ (l : List Bool). lists.is_scope l v) o.kinds

-- ---- the same for the code

pub free_by : (p : Progress) (a : Agenda) (u : ℕ) (r : Bool) → p.status u ≡ is_waiting
    → (r ≡ true → length (undone_needs a.graph u) ≡ 0) → (r ≡ false → 0 < length (undone_needs a.graph u))
    → IsFree p a u r
free_by p a u true w y n = (w, y refl)
free_by p a u false w y n = λ _. n refl

pub free_so : (p : Progress) (a : Agenda) (u : ℕ) (r s : Bool) → r ≡ s → IsFree p a u r → IsFree p a u s
free_so p a u r s e f = subst (λ (b : Bool). IsFree p a u b) e f

pub standing_so : (x : Planned) (p : Progress) (t : Table) (u : ℕ) (r s : Standing) → r ≡ s → IsStanding x p t u r
    → IsStanding x p t u s
standing_so x p t u r s e i = subst (λ (z : Standing). IsStanding x p t u z) e i

pub put_off_kept : (x : Planned) (t : Table) (tasks : ℕ) (h : List Event) (a : Agenda) (seen : ℕ)
    → IsKept x t tasks h a seen → (u v : ℕ) → IsStanding x (progress h) t u (Waits v) → (b : Agenda)
    → (r : Result (Option Value) AllocError) → IsPutOff a b u v r → IsKept x t tasks h b seen
put_off_kept x t tasks h a seen k u v s b (Ok (Some body)) i = absurd i
put_off_kept x t tasks h a seen k u v s b (Ok None) n = kept_put_off x t tasks h a seen k u v s b n
put_off_kept x t tasks h a seen k u v s b (Err e) g = kept_same x t tasks h a seen k b g

pub put_off_looked : (x : Planned) (p : Progress) (t : Table) (noted : ℕ → Type 0) (a b : Agenda) (u v : ℕ)
    (r : Result (Option Value) AllocError) → IsPutOff a b u v r → IfOk r (IsLooked x p t noted a b u)
put_off_looked x p t noted a b u v (Ok (Some body)) i = absurd i
put_off_looked x p t noted a b u v (Ok None) n = off_needing a b u v n
put_off_looked x p t noted a b u v (Err e) g = tt

-- a task that is ready, with what is prepared for it
pub looked_ready : (x : Planned) (t : Table) (tasks : ℕ) (h : List Event) (a : Agenda) (seen : ℕ)
    (k : IsKept x t tasks h a seen) (noted : ℕ → Type 0) (u : ℕ) (body : Value) → (progress h).refusal ≡ None
    → IsStanding x (progress h) t u (Ready body) → (Enters x u (Ready body) → IsScopeSeen x t u)
    → (Leaves x u (Ready body) → noted u)
    → IsReady x (progress h) u (json body) × IsPrepared x t noted u
looked_ready x t tasks h a seen k noted u body r s e l = (
  ready_now x t tasks h a seen k u (json body) r s.task s.is_task s.stands_as.0 s.stands_as.1,
  record { entered = λ q i. e (q, i); is_noted = λ q i. l (q, i) },
)

-- one after another
pub kept_then : (x y : Planned) (s t u : Table) (tasks : ℕ) (h : List Event) (a b c : Agenda) → y ≡ x
    → StaysKept x s t tasks h a b → StaysKept y t u tasks h b c → StaysKept x s u tasks h a c
kept_then x y s t u tasks h a b c e f g seen k =
    subst (λ (z : Planned). IsKept z u tasks h c seen) e
    (g seen (subst (λ (z : Planned). IsKept z t tasks h b seen) (sym e) (f seen k)))

pub kept_as : (x y : Planned) (s t : Table) (tasks : ℕ) (h : List Event) (a b : Agenda) → y ≡ x
    → StaysKept x s t tasks h a b → (seen : ℕ) × IsKept x s tasks h a seen → (seen : ℕ) × IsKept y t tasks h b seen
kept_as x y s t tasks h a b e f k =
    (k.0, subst (λ (z : Planned). IsKept z t tasks h b k.0) (sym e) (f k.0 k.1))

-- the first of the listed tasks of scopes is ready
pub first_ready : (x : Planned) (t : Table) (tasks : ℕ) (h : List Event) (a : Agenda) (seen : ℕ)
    (k : IsKept x t tasks h a seen) (noted : ℕ → Type 0) (u : ℕ) (body : Json) → IsFirst a true (Some u)
    → IsReady x (progress h) u body → IsPrepared x t noted u → IsReadyFirst x (progress h) t noted a u
first_ready x t tasks h a seen k noted u body f r i = record {
  of_scope = f.1.0;
  is_ready = ready_scope_null x (progress h) u body r (sym (k.kinds_are u r.of r.may_start.is_task) ∙ f.1.0);
  is_prepared = i;
  is_first = λ v s l. by v s l (is_listed a v) refl;
}
  where
    by : (v : ℕ) → is_scope a v ≡ true → v < u → (b : Bool) → is_listed a v ≡ b → b ≡ false
    by v s l false e = refl
    by v s l true e = let m = f.1.1.1 v s e in absurd (omega (arith, l, m))

-- where no task of scopes was listed, none is
pub no_scopes_still : (a b : Agenda) (u : ℕ) → IsOff a b u → NoScopeListed a → NoScopeListed b
no_scopes_still a b u o n v s = off_lists a b u o v (n v (sym (off_scope a b u o v) ∙ s))

-- a call that returns Ok has added the need
pub need_added : (old mid : Agenda) (u v : ℕ) (r : Result (Unit {0}) AllocError) (o : Unit {0}) → r ≡ Ok o
    → HasGraph old mid (if is_ok r then with_edge old.graph u v else old.graph)
    → HasGraph old mid (with_edge old.graph u v)
need_added old mid u v r o e h =
    subst (λ (q : Result (Unit {0}) AllocError).
    HasGraph old mid (if is_ok q then with_edge old.graph u v else old.graph)) e h

-- a scope that was found ready is the first
pub ready_found : (x y : Planned) → y ≡ x → (t : Table) (tasks : ℕ) (h : List Event) (noted : ℕ → Type 0)
    (a b : Agenda) (u : ℕ) (body : Value) (o : Option Value) → o ≡ Some body
    → IsLooked y (progress h) t noted a b u o → IsFirst a true (Some u) → (seen : ℕ) × IsKept x t tasks h b seen
    → IsReadyFirst x (progress h) t noted b u
ready_found x y e t tasks h noted a b u body o i l f k =
    let m = subst (λ (q : Option Value). IsLooked y (progress h) t noted a b u q) i l in
    first_ready x t tasks h b k.0 k.1 noted u (json body)
    (subst (λ (z : Agenda). IsFirst z true (Some u)) (sym m.1) f)
    (subst (λ (z : Planned). IsReady z (progress h) u (json body)) e m.0.0)
    (subst (λ (z : Planned). IsPrepared z t noted u) e m.0.1)

pub no_scopes_looked : (y : Planned) (p : Progress) (t : Table) (noted : ℕ → Type 0) (a b : Agenda) (u : ℕ)
    (o : Option Value) → IsLooked y p t noted a b u o → NoScopeListed a → NoScopeListed b
no_scopes_looked y p t noted a b u (Some body) l n = subst (λ (z : Agenda). NoScopeListed z) (sym l.1) n
no_scopes_looked y p t noted a b u None l n = no_scopes_still a b u l n
