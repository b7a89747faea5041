-- A history that has ended has a true ending.
use Rattle.std.proofs.Common.{◌≡◌, ◌≢◌, ◌⊎◌, inl, inr, ℕ, zero, suc, ◌<◌, Bool, true, false, true≢false, List, []}
use Rattle.std.proofs.Common.{◌∷◌, length, set, get_or, map, Option, Some, None, refl, sym, subst, ◌∙◌, arith}
use Rattle.std.proofs.Common.{length-set}
use Rattle.std.proofs.lemmas.List.{length-map}
use Rattle.std.proofs.lemmas.Option.{slice_get_within}
use Rattle.std.specs.Prelude.{not, slice_get}
use Rattle.foundation.proofs.TruthValues.{of_not, of_not_false}
use Rattle.arm_value.specs.Json.{Json, null}
use Rattle.plan_cells.specs.Known.{Table}
use Rattle.plan_cells.specs.Tasks as task
use Rattle.plan_cells.specs.Tasks.{Task}
use Rattle.plan_cells.specs.Children.{Has}
use Rattle.deploy_histories.specs.Planned.{Planned, first_task}
use Rattle.deploy_histories.specs.Events.{enter, begin, leave, crash, Status, is_waiting, is_begun, is_done}
use Rattle.deploy_histories.specs.Events.{Refusal, Progress, done_status, NoneBegun}
use Rattle.deploy_histories.specs.Points.{IsTableOf}
use Rattle.deploy_histories.specs.Values.{task_values, body_of}
use Rattle.deploy_histories.specs.Readiness.{Fault, Readiness, over, under_way, needs_task, at_fault, ready}
use Rattle.deploy_histories.specs.Readiness.{first_fault, first_undone, by_fault, by_need, by_status, readiness}
use Rattle.deploy_histories.specs.Legal.{MayStart, AllDone, NothingMay, HasEnded}
use Rattle.deploy_histories.specs.Endings.{Ending, succeeded, refused, faulty, circular, Stands, NeedsUndone, IsEnding}
use Rattle.deploy_histories.proofs.ReadinessLemmas.{first_is, none_is, ready_says, need_says}
use Rattle.history_endings.proofs.Circles.{unmarked, marks_one, all_marked, marked_now, IsCircle, a_circle, Walked}
use Rattle.history_endings.proofs.Circles.{came_again}

over_says : (s : Status) (n : Option ℕ) (f : Option Fault) (b : Json)
    → by_status s (by_need n (by_fault f b)) ≡ over → done_status s ≡ true
over_says (is_done o) n f b e = refl
over_says (is_begun w j) n f b e = cc
over_says is_waiting (Some v) f b e = cc
over_says is_waiting None (Some g) b e = cc
over_says is_waiting None None b e = cc

abbrev Begun : Status → Type 0
Begun s = (worker : ℕ) × ((body : Json) × (s ≡ is_begun worker body))

way_says : (s : Status) (n : Option ℕ) (f : Option Fault) (b : Json)
    → by_status s (by_need n (by_fault f b)) ≡ under_way → Begun s
way_says (is_done o) n f b e = cc
way_says (is_begun w j) n f b e = (w, (j, refl))
way_says is_waiting (Some v) f b e = cc
way_says is_waiting None (Some g) b e = cc
way_says is_waiting None None b e = cc

enter_not : (u : ℕ) → enter u ≡ crash → ⊥
enter_not u e = cc

leave_not : (u : ℕ) → leave u ≡ crash → ⊥
leave_not u e = cc

begin_not : (u w : ℕ) (b : Json) → begin u w b ≡ crash → ⊥
begin_not u w b e = cc

module _ (x : Planned) (p : Progress) (t : Table) (table : IsTableOf x p t) (none : NoneBegun p)
    (unrefused : p.refusal ≡ None) (nothing : NothingMay x p) where
  -- a task that is not done
  pub record IsUndone (u : ℕ) : Type 0 where
    pub of : Task
    pub is_task : slice_get x.tasks u ≡ Some of
    pub is_undone : done_status (p.status u) ≡ false

  starts : (u : ℕ) (k : Task) (body : Json) → slice_get x.tasks u ≡ Some k → readiness x t p.status u k ≡ ready body
      → MayStart x p u k body
  starts u k body is e = record {
    unrefused = unrefused;
    is_task = is;
    known = t;
    is_known = table.is_known;
    is_ready = e;
  }

  -- no task is ready
  none_ready : (u : ℕ) (k : Task) (body : Json) → slice_get x.tasks u ≡ Some k → readiness x t p.status u k ≡ ready body
      → ⊥
  none_ready u (task.put at s) body is e =
      begin_not u 0 body (nothing (begin u 0 body) (task.put at s, (tt, starts u (task.put at s) body is e)))
  none_ready u (task.delete k) body is e =
      begin_not u 0 body (nothing (begin u 0 body) (task.delete k, (tt, starts u (task.delete k) body is e)))
  none_ready u (task.enter at) body is e =
      let b : null ≡ body = (ready_says x t p u (task.enter at) body e).has_body in
      enter_not u (nothing (enter u) (
        at,
        subst (λ (j : Json). MayStart x p u (task.enter at) j) (sym b)
            (starts u (task.enter at) body is e),
      ))
  none_ready u (task.leave at) body is e =
      let b : null ≡ body = (ready_says x t p u (task.leave at) body e).has_body in
      leave_not u (nothing (leave u) (
        at,
        subst (λ (j : Json). MayStart x p u (task.leave at) j) (sym b)
            (starts u (task.leave at) body is e),
      ))

  -- a fault of the task, or another task that it needs and that is not done
  abbrev Next : ℕ → Type 0
  Next u = ((f : Fault) × Stands x p u (at_fault f)) ⊎ ((v : ℕ) × (NeedsUndone x p u v × IsUndone v))

  by_word : (u : ℕ) (i : IsUndone u) (r : Readiness) → readiness x t p.status u i.of ≡ r → Next u
  by_word u i over e =
      absurd (true≢false (sym (over_says (p.status u) (first_undone x t p.status i.of)
      (first_fault x.deployment t (task_values x.deployment i.of)) (body_of x t i.of) e) ∙ i.is_undone))
  by_word u i under_way e =
      absurd (none u (way_says (p.status u) (first_undone x t p.status i.of)
      (first_fault x.deployment t (task_values x.deployment i.of)) (body_of x t i.of) e))
  by_word u i (ready body) e = absurd (none_ready u i.of body i.is_task e)
  by_word u i (at_fault f) e =
      inl (f, record { task = i.of; is_task = i.is_task; known = t; is_table = table; is = e })
  by_word u i (needs_task v) e =
      let h = need_says x t p u i.of v e in
      inr (
        v,
        (
          record {
            task = i.of;
            other = h.other;
            is_task = i.is_task;
            is_other = h.is_task;
            is_undone = i.is_undone;
            known = t;
            is_table = table;
            is_needed = h.is_needed;
          },
          record { of = h.other; is_task = h.is_task; is_undone = h.is_undone },
        ),
      )

  abbrev pub AnEnding : Type 0
  AnEnding = (e : Ending) × IsEnding x p e

  of_circle : IsCircle x p → AnEnding
  of_circle c = (circular c.first c.others, (c.in_turn, c.at_least))

  -- what is marked was come by
  abbrev AreMarked : List Bool → List ℕ → Type 0
  AreMarked bs ws = (w : ℕ) → get_or bs w false ≡ true → Has w ws

  close : (ws : List ℕ) (u v : ℕ) → NeedsUndone x p u v → Walked x p ws u → Has v (u ∷ ws) → AnEnding
  close ws u v need walked h =
      let c = came_again x p ws u [] v walked need h in of_circle (a_circle x p v c.0 c.1)

  by_next : (u : ℕ) → Next u → ((v : ℕ) → NeedsUndone x p u v → IsUndone v → AnEnding) → AnEnding
  by_next u (inl f) go = (faulty u f.0, f.1)
  by_next u (inr v) go = go v.0 v.1.0 v.1.1

  by_mark : (bs : List Bool) (ws : List ℕ) (u v : ℕ) → AreMarked bs (u ∷ ws) → NeedsUndone x p u v → Walked x p ws u
      → (get_or bs v false ≡ false → AnEnding) → (b : Bool) → get_or bs v false ≡ b → AnEnding
  by_mark bs ws u v marks need walked go true e = close ws u v need walked (marks v e)
  by_mark bs ws u v marks need walked go false e = go e

  within : (u : ℕ) → IsUndone u → u < length x.tasks
  within u i = slice_get_within x.tasks u i.of i.is_task

  one_fewer : (bs : List Bool) (v n : ℕ) → v < length bs → get_or bs v false ≡ false → unmarked bs ≡ suc n
      → unmarked (set bs v true) ≡ n
  one_fewer bs v n l e c = let m = marks_one bs v l e in omega (arith, m, c)

  marked_more : (bs : List Bool) (ws : List ℕ) (v : ℕ) → AreMarked bs ws → AreMarked (set bs v true) (v ∷ ws)
  marked_more bs ws v marks w e = elim (marked_now bs v w e) [ inl h ↦ inl (sym h) | inr h ↦ inr (marks w h) ]

  in_marks : (bs : List Bool) (v : ℕ) → length bs ≡ length x.tasks → v < length x.tasks → v < length bs
  in_marks bs v size l = omega (arith, size, l)

  -- on from a task, with so many tasks that were not come by
  walk : (n : ℕ) (bs : List Bool) (ws : List ℕ) (u : ℕ) → unmarked bs ≡ n → length bs ≡ length x.tasks
      → AreMarked bs (u ∷ ws) → Walked x p ws u → IsUndone u → AnEnding
  walk zero bs ws u count size marks walked i =
      by_next u (by_word u i (readiness x t p.status u i.of) refl) (λ v need j.
      close ws u v need walked (marks v (all_marked bs v count (in_marks bs v size (within v j)))))
  walk (suc n) bs ws u count size marks walked i =
      by_next u (by_word u i (readiness x t p.status u i.of) refl) (λ v need j.
      by_mark bs ws u v marks need walked (λ e.
      walk n (set bs v true) (u ∷ ws) v (one_fewer bs v n (in_marks bs v size (within v j)) e count)
      (length-set bs v true ∙ size) (marked_more bs (u ∷ ws) v marks) (need, walked) j)
      (get_or bs v false) refl)

  none_marked : (ts : List Task) (w : ℕ) → get_or (map (λ _. false) ts) w false ≡ true → ⊥
  none_marked [] w e = true≢false (sym e)
  none_marked (k ∷ ts) zero e = true≢false (sym e)
  none_marked (k ∷ ts) (suc w) e = none_marked ts w e

  from_task : (u : ℕ) → IsUndone u → AnEnding
  from_task u i =
      walk (unmarked (map (λ _. false) x.tasks)) (map (λ _. false) x.tasks) [] u refl
      (length-map x.tasks (λ _. false)) (λ w e. absurd (none_marked x.tasks w e)) tt i

  abbrev undone_test : ℕ → Task → Bool
  undone_test n k = not (done_status (p.status n))

  by_first : (o : Option ℕ) → first_task undone_test x.tasks ≡ o → AnEnding
  by_first None e =
      (succeeded, λ u k is. of_not_false (done_status (p.status u)) (none_is undone_test x.tasks e u k is))
  by_first (Some u) e =
      let f = first_is undone_test x.tasks u e in
      from_task u (record {
        of = f.found;
        is_task = f.has;
        is_undone = of_not (done_status (p.status u)) f.passes;
      })

  pub cause_of_nothing : AnEnding
  cause_of_nothing = by_first (first_task undone_test x.tasks) refl

module _ (x : Planned) (p : Progress) (t : Table) (table : IsTableOf x p t) (ended : HasEnded x p) where
  by_more : p.refusal ≡ None → (p.refusal ≢ None) ⊎ (AllDone x p ⊎ NothingMay x p)
      → (e : Ending) × IsEnding x p e
  by_more e (inl n) = absurd (n e)
  by_more e (inr (inl all)) = (succeeded, all)
  by_more e (inr (inr nothing)) = cause_of_nothing x p t table ended.none_begun e nothing

  by_refusal : (o : Option Refusal) → p.refusal ≡ o → (e : Ending) × IsEnding x p e
  by_refusal None e = by_more e ended.no_more
  by_refusal (Some r) e = (refused r, e)

  pub a_cause : (e : Ending) × IsEnding x p e
  a_cause = by_refusal p.refusal refl
