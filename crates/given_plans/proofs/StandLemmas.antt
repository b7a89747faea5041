-- How the tasks of a plan that is given as tables stand.
use Rattle.std.proofs.Common.{◌≡◌, inl, inr, ℕ, zero, suc, ◌<◌, true, List, [], ◌∷◌, map, Option}
use Rattle.std.proofs.Common.{Some, None, length, refl, sym, ap, subst, ◌∙◌, arith}
use Rattle.std.specs.Prelude.{option_map, option_and_then, slice_get, Result, Ok, Err, IfOk}
use Rattle.std.specs.declared.alloc.AllocError.{AllocError}
use Rattle.std.proofs.lemmas.List.{length-map}
use Rattle.std.proofs.lemmas.Option.{slice_get-map, slice_get_cases, same_Some}
use Rattle.arm_value.specs.Json.{Json, object, no_pairs}
use Rattle.arm_value.specs.View.{json}
use Rattle.arm_value.specs.declared.value.Value.{Value}
use Rattle.reading.specs.Reading.{continued, both, through, beside}
use Rattle.reading.specs.Knowledge.{value, told, Grows, Stays, Known, missing, known, absent}
use Rattle.arm_env.specs.Held.{capped}
use Rattle.arm_env.specs.Look.{all}
use Rattle.deploy_cells.specs.Followed.{followed}
use Rattle.deploy_cells.specs.Cells.{Step, step, Position}
use Rattle.plan_cells.specs.Children.{Has, output_names}
use Rattle.plan_cells.specs.Known.{Table, entry_of}
use Rattle.plan_cells.specs.Reads.{entry_cells, of_template}
use Rattle.plan_cells.specs.Resources.{resource_at, nested_at}
use Rattle.plan_cells.specs.Scopes.{template_at, owner}
use Rattle.plan_cells.specs.Sites.{reading_at}
use Rattle.plan_cells.specs.Tasks.{Task, enter, leave, put}
use Rattle.template_tree.specs.Tree.{TemplateTree}
use Rattle.deploy_histories.specs.Events as event
use Rattle.deploy_histories.specs.Events.{Progress, IsDone, is_waiting}
use Rattle.deploy_histories.specs.Legal.{IsAct, MayStart, NothingMay}
use Rattle.deploy_histories.specs.Outcome.{Target, target, target_of}
use Rattle.deploy_histories.specs.Planned.{Planned}
use Rattle.deploy_histories.specs.Readiness.{fault_or, first_fault, needs_first, readiness, ready}
use Rattle.deploy_histories.specs.Values.{task_values, body_reading, body_of, entry_value, leave_value, outputs_of}
use Rattle.deploy_histories.specs.Values.{a_body, value_or_null}
use Rattle.point_values.specs.Seen.{IsSeen}
use Rattle.task_standings.specs.declared.standing.Aim.{Aim}
use Rattle.task_standings.specs.declared.standing.Standing.TheVariants.{Ready}
use Rattle.task_standings.specs.Outputs.{AreOutputs}
use Rattle.task_standings.specs.Standings.{AreStartNeedsDone, IsStanding, FitsTask, IsScopeSeen, kind_of, scope_at}
use Rattle.given_plans.specs.Given.{at_depth, task_of, planned_of, given_template, nothing_known, kind_in, body_json}
use Rattle.given_plans.specs.Given.{aim_target, given_target}
use Rattle.given_plans.specs.declared.plan.GivenPlan.{GivenPlan}
use Rattle.given_plans.specs.declared.plan.GivenTask.{GivenTask}
use Rattle.given_plans.specs.declared.plan.GivenTask.TheVariants.{Enter, Put, Leave}

-- ---- which tasks there are

module _ (g : GivenPlan) where
  pub task_is : (u : ℕ) (t : GivenTask) → slice_get g.tasks.items u ≡ Some t
      → slice_get (planned_of g).tasks u ≡ Some (task_of t)
  task_is u t e = slice_get-map task_of g.tasks.items u ∙ ap (option_map task_of) e

  -- the task of a number
  pub record IsTaskAt (u : ℕ) : Type 0 where
    pub of : GivenTask
    pub is : slice_get g.tasks.items u ≡ Some of
    pub within : u < length g.tasks.items

  pub task_there : (u : ℕ) → u < length (planned_of g).tasks → IsTaskAt u
  task_there u l = elim (slice_get_cases g.tasks.items u).1 [
    | inl h ↦ record { of = h.0; is = h.2; within = h.1 }
    | inr h ↦ (let s = length-map g.tasks.items task_of in let m = h.0 in absurd (omega (arith, l, s, m)))
  ]

  pub kind_is : (u : ℕ) (t : GivenTask) → slice_get g.tasks.items u ≡ Some t
      → option_map kind_of (slice_get (planned_of g).tasks u) ≡ Some (kind_in t)
  kind_is u t e = ap (option_map kind_of) (task_is u t e) ∙ of t
    where
      of : (s : GivenTask) → Some (kind_of (task_of s)) ≡ Some (kind_in s)
      of (Enter n) = refl
      of (Put i) = refl
      of (Leave n) = refl

  aim_by : (u : ℕ) (o : Option GivenTask) → slice_get (planned_of g).tasks u ≡ option_map task_of o → (t : Task)
      → slice_get (planned_of g).tasks u ≡ Some t → IsAct t → target_of (planned_of g) u ≡ Some (given_target g)
  unfolding template_at resource_at
  aim_by u None e t i a = let f : None ≡ Some t = sym e ∙ i in absurd (cc)
  aim_by u (Some (Put i)) e t f a = ap (λ o. option_and_then (target (planned_of g)) o) e
  aim_by u (Some (Enter n)) e t f a =
      absurd (subst IsAct (same_Some t (enter (at_depth n)) (sym f ∙ e)) a)
  aim_by u (Some (Leave n)) e t f a =
      absurd (subst IsAct (same_Some t (leave (at_depth n)) (sym f ∙ e)) a)

  -- what a task that acts is for
  pub aim_is : (u : ℕ) (t : Task) → slice_get (planned_of g).tasks u ≡ Some t → IsAct t
      → target_of (planned_of g) u ≡ Some (given_target g)
  aim_is u t i a = aim_by u (slice_get g.tasks.items u) (slice_get-map task_of g.tasks.items u) t i a

  pub aim_so : (u : ℕ) (t : Task) → slice_get (planned_of g).tasks u ≡ Some t → IsAct t → (r : Result Aim AllocError)
      → IfOk r (λ a. aim_target a ≡ given_target g)
      → IfOk r (λ a. target_of (planned_of g) u ≡ Some (record { act = a.act; id = a.id; api = a.api }))
  aim_so u t i a (Ok aim) e = aim_is u t i a ∙ ap (λ (z : Target). Some z) (sym e)
  aim_so u t i a (Err f) e = tt

  -- the text of a position is empty
  pub place_so : (u : ℕ) (q : Position) → scope_at (planned_of g) u ≡ Some q → (t : List ℕ) → t ≡ []
      → option_map (λ (p : Position). []) (scope_at (planned_of g) u) ≡ Some t
  place_so u q e t i = ap (option_map (λ (p : Position). [])) e ∙ ap (λ (z : List ℕ). Some z) (sym i)

  -- ---- no scope has parameters, variables or outputs

  no_nested : (r : ℕ) → nested_at (given_template g) r ≡ None
  unfolding resource_at
  no_nested zero = refl
  no_nested (suc r) = refl

  no_template : (s : Step) (p : Position) → template_at (given_template g) (s ∷ p) ≡ None
  unfolding template_at
  no_template s [] = ap (λ o. option_map (λ n. n.template) o) (no_nested s.resource)
  no_template s (t ∷ p) =
      ap (λ o. option_map (λ n. n.template) (option_and_then (λ u. nested_at u s.resource) o)) (no_template t p)

  pub no_cells : (q : Position) → entry_cells (planned_of g).deployment q ≡ []
  unfolding template_at
  no_cells [] = refl
  no_cells (s ∷ p) = ap (of_template _) (no_template s p)

  pub no_outputs : (q : Position) (r : TemplateTree) → template_at (given_template g) q ≡ Some r → output_names r ≡ []
  unfolding template_at
  no_outputs [] r e = ap output_names (sym (same_Some (given_template g) r e))
  no_outputs (s ∷ p) r e = let f : None ≡ Some r = sym (no_template s p) ∙ e in absurd (cc)

  pub scope_seen : (t : Table) (u : ℕ) → IsScopeSeen (planned_of g) t u
  scope_seen t u = record {
    entered = λ q e c h. absurd (subst (λ cs. Has c cs) (no_cells (owner (given_template g) q)) h);
    left = λ q n r e f h. absurd (subst (λ ns. Has n ns) (no_outputs q r f) h);
  }

  -- ---- each task is ready

  body_told : (i : ℕ) → told nothing_known (body_reading (planned_of g).deployment [] (step 0 i))
      ≡ value (Some (object no_pairs))
  unfolding told continued both through beside followed capped all template_at resource_at reading_at owner
  body_told i = refl

  no_values : (q : Position) → first_fault (planned_of g).deployment nothing_known
      (task_values (planned_of g).deployment (enter q)) ≡ None
  no_values q =
      ap (λ cs. first_fault (planned_of g).deployment nothing_known
      (map (entry_value (planned_of g).deployment) cs)) (no_cells q)

  none_left : (q : Position) → first_fault (planned_of g).deployment nothing_known
      (task_values (planned_of g).deployment (leave q)) ≡ None
  unfolding template_at
  none_left [] = refl
  none_left (s ∷ p) =
      ap (λ o. first_fault (planned_of g).deployment nothing_known
      (outputs_of
      (leave_value (planned_of g).deployment (s ∷ p)) o)) (no_template s p)

  no_fault : (t : GivenTask) → first_fault (planned_of g).deployment nothing_known
      (task_values (planned_of g).deployment (task_of t)) ≡ None
  no_fault (Enter n) = no_values (at_depth n)
  no_fault (Put i) =
      ap (λ v. fault_or (planned_of g).deployment nothing_known
      a_body v None) (body_told i)
  no_fault (Leave n) = none_left (at_depth n)

  body_is : (t : GivenTask) → body_of (planned_of g) nothing_known (task_of t) ≡ body_json t
  body_is (Enter n) = refl
  body_is (Put i) = ap value_or_null (body_told i)
  body_is (Leave n) = refl

  fits : (t : GivenTask) → FitsTask (task_of t) (body_json t)
  fits (Enter n) = tt
  fits (Put i) = omega arith
  fits (Leave n) = tt

  module _ (law : (x : Planned) (p : Progress) (t : Table) → IsSeen x p t → (u : ℕ) (task : Task)
      → p.status u ≡ is_waiting
      → ((v : ℕ) (other : Task) → slice_get x.tasks v ≡ Some other → needs_first x task other ≡ true → IsDone p v)
      → first_fault x.deployment t (task_values x.deployment task) ≡ None
      → readiness x t p.status u task ≡ ready (body_of x t task)) (p : Progress)
      (seen : IsSeen (planned_of g) p nothing_known) (u : ℕ) (t : GivenTask)
      (is : slice_get g.tasks.items u ≡ Some t) (waits : p.status u ≡ is_waiting)
      (needs : AreStartNeedsDone (planned_of g) p u) where
    now_ready : readiness (planned_of g) nothing_known p.status u (task_of t) ≡ ready (body_json t)
    now_ready =
        law (planned_of g) p nothing_known seen u (task_of t) waits
        (λ v other i e. needs (task_of t) v other (task_is u t is) i e) (no_fault t)
        ∙ ap ready (body_is t)

    pub stands : (body : Value) → json body ≡ body_json t
        → IsStanding (planned_of g) p nothing_known u (Ready body)
    stands body e = record {
      task = task_of t;
      is_task = task_is u t is;
      stands_as = (
        now_ready ∙ ap ready (sym e),
        subst (λ j. FitsTask (task_of t) j) (sym e) (fits t),
      );
    }

    may_start : p.refusal ≡ None → MayStart (planned_of g) p u (task_of t) (body_json t)
    may_start none_refused = record {
      unrefused = none_refused;
      is_task = task_is u t is;
      known = nothing_known;
      is_known = seen.known_then;
      is_ready = now_ready;
    }

    -- so something may come
    pub never_over : p.refusal ≡ None → NothingMay (planned_of g) p → ⊥
    never_over r n = by t (may_start r)
      where
        by : (s : GivenTask) → MayStart (planned_of g) p u (task_of s) (body_json s) → ⊥
        by (Enter k) m = let e = n (event.enter u) (at_depth k, m) in cc
        by (Put i) m = let e = n (event.begin u 0 (object no_pairs)) (put [] (step 0 i), (tt, m)) in cc
        by (Leave k) m = let e = n (event.leave u) (at_depth k, m) in cc

  -- ---- the outputs: none

  pub outputs_none : AreOutputs (planned_of g) nothing_known []
  outputs_none = record { are_known = λ n h. absurd h; are = refl }

pub grows_itself : (t : Table) → Grows t t
grows_itself t c = by (t c)
  where
    by : (e : Known Json) → Stays e e
    by (known v) = refl
    by absent = refl
    by missing = tt

-- nothing is seen at any point
pub nothing_seen : (x : Planned) (p : Progress) → IsSeen x p nothing_known
nothing_seen x p = record {
  known_then = λ c o e. absurd (not_missing o e);
  hides = λ v task c i g d. refl;
}
  where
    not_missing : (o : Option Json) → missing ≡ entry_of o → ⊥
    not_missing (Some j) e = cc
    not_missing None e = cc
