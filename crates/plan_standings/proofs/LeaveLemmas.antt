-- The readiness of the leave of a scope, by what its outputs were told to be.
use Rattle.std.proofs.Common.{◌≡◌, true, false, ℕ, ◌<◌, List, [], ◌∷◌, map, length, Option, Some, None, refl, sym, ap}
use Rattle.std.proofs.Common.{subst, ◌∙◌, arith}
use Rattle.std.specs.Prelude.{slice_get}
use Rattle.std.proofs.lemmas.List.{length-map}
use Rattle.arm_value.specs.Json.{Json, null, bool}
use Rattle.arm_value.specs.Kinds.{is_true}
use Rattle.arm_value.specs.View.{json}
use Rattle.arm_value.specs.declared.value.Value.{Value}
use Rattle.arm_ids.specs.Held.{HeldResource}
use Rattle.arm_ids.specs.declared.id.ResourceId.{ResourceId}
use Rattle.reading.specs.Knowledge.{value, no_value, told, and_then}
use Rattle.reading.proofs.Parts.{told-continued}
use Rattle.deploy_cells.specs.Cells.{Position, Cell, offered, output}
use Rattle.deploy_cells.specs.Guarded.{not_there}
use Rattle.plan_cells.specs.Known as knowledge
use Rattle.plan_cells.specs.Meaning.{Deployment, plain}
use Rattle.plan_cells.specs.Scopes.{template_at}
use Rattle.plan_cells.specs.Tasks.{Task, leave}
use Rattle.plan_cells.specs.Children.{Has}
use Rattle.plan_cells.proofs.ListLemmas.{has_map}
use Rattle.plan_table.specs.declared.table.Table.{Table}
use Rattle.plan_table.specs.Opened.{opened_of}
use Rattle.plan_table.specs.Whole.{whole_of, scopes_of}
use Rattle.plan_table.specs.Found.{scope_at}
use Rattle.plan_sight.specs.declared.lack.Lack.{Lack}
use Rattle.plan_sight.specs.declared.lack.Lack.TheVariants as lack
use Rattle.plan_sight.specs.Seen.{Lacks}
use Rattle.task_aims.specs.Plan.{Plan}
use Rattle.task_aims.specs.Task.TheVariants.{Leave}
use Rattle.task_aims.specs.Plans.{deployment_of}
use Rattle.task_aims.specs.Numbered.{TaskNumbers as Numbers}
use Rattle.deploy_histories.specs.Planned.{Planned}
use Rattle.deploy_histories.specs.Events.{Event, Progress, progress, IsDone, is_waiting}
use Rattle.deploy_histories.specs.Values.{TaskValue, a_cell, task_values, outputs_of, body_of, where_offered}
use Rattle.deploy_histories.specs.Values.{output_reading, leave_value}
use Rattle.deploy_histories.specs.Readiness.{fault_or, first_fault, needs_first, readiness, ready}
use Rattle.task_aims.specs.Planned.{planned_by}
use Rattle.point_values.specs.Seen.{IsSeen}
use Rattle.point_rows.specs.declared.later.Entry.{Entry}
use Rattle.point_rows.specs.declared.later.Entry.TheVariants as entry
use Rattle.point_rows.specs.declared.later.Later.{Later}
use Rattle.point_rows.specs.Rows.{known_now, told_now}
use Rattle.scope_faults.specs.Outputs.{names_of, IsOffered, AreNoted, HasNothing, WaitsForState, WaitsForLine}
use Rattle.scope_faults.specs.Noted.{Noted}
use Rattle.awaited_cells.proofs.ValueLemmas.{outputs_await}
use Rattle.task_standings.specs.Standings.{IsStanding, IsNone}
use Rattle.task_standings.specs.declared.standing.Standing.{Standing}
use Rattle.task_standings.specs.declared.standing.Standing.TheVariants.{Ready, Stuck}
use Rattle.plan_standings.specs.Waits.{table_of, IsNext, IsAtPoint, IsEntered}
use Rattle.plan_standings.specs.Answers.{IsLacking, IsAnswer}
use Rattle.plan_standings.proofs.NumberedLemmas.{planned_task, entered_itself, start_entered}
use Rattle.plan_standings.proofs.WaitLemmas.{in_sight}
use Rattle.plan_standings.proofs.AnswerLemmas.{start_of_plan}
use Rattle.plan_standings.specs.declared.leaving.Leaving.TheVariants.{Stands}
use Rattle.plan_standings.specs.Leaving.{IsLeaveLook}

-- ---- what is told of an output

module _ (d : Deployment) (k : knowledge.Table) (q : Position) (y : List ℕ) where
  pub by_condition : (o : Option Json) → told k (plain d (offered q y)) ≡ value o
      → told k (output_reading d q y) ≡ told k (where_offered (is_true o) (plain d (output q y)))
  by_condition o e =
      told-continued Cell Json (Option Json) (Option Json) k (plain d (offered q y))
      (λ v. where_offered (is_true v) (plain d (output q y)))
      ∙ ap (λ z. and_then z (λ v. told k (where_offered (is_true v) (plain d (output q y))))) e

  away : told k not_there ≡ value None
  unfolding told
  away = refl

  pub has_value : (v : Json) → told k (plain d (offered q y)) ≡ value (Some (bool true))
      → told k (plain d (output q y)) ≡ value (Some v) → told k (output_reading d q y) ≡ value (Some v)
  has_value v e f = by_condition (Some (bool true)) e ∙ f

  pub is_away : told k (plain d (offered q y)) ≡ value (Some (bool false))
      → told k (output_reading d q y) ≡ value None
  is_away e = by_condition (Some (bool false)) e ∙ away

module _ (t : Table) (l : Later) (f : ℕ) where
  told_by : (y : List ℕ) (e : Entry) → IsOffered t l f y e
      → (o : Option Json) × (told_now t l (output_reading (whole_of t) (scope_at t f).position y) ≡ value o)
  told_by y (entry.Value v) h =
      (Some (json v), has_value (whole_of t) (known_now t l) (scope_at t f).position y (json v) h.0 h.1)
  told_by y entry.Away h = (None, is_away (whole_of t) (known_now t l) (scope_at t f).position y h)
  told_by y entry.Missing h = absurd h

  pub none_at_fault : (d : Deployment) → whole_of t ≡ d → (ys : List (List ℕ)) (ns : List Noted)
      → AreNoted t l f ys ns
      → first_fault d (known_now t l) (map (leave_value d (scope_at t f).position) ys) ≡ None
  none_at_fault d e [] ns h = refl
  none_at_fault d e (y ∷ ys) [] h = absurd h
  none_at_fault d e (y ∷ ys) (n ∷ ns) h =
      let q = (scope_at t f).position in
      let v = told_by y n.entry h.0.is_offered in
      ap (λ z. fault_or d (known_now t l) (a_cell (output q y)) z
      (first_fault d (known_now t l) (map (leave_value d q) ys)))
      (subst (λ (b : Deployment). told_now t l (output_reading b q y) ≡ value v.0) e v.1)
      ∙ none_at_fault d e ys ns h.1

-- ---- the leave of a scope

module _ (g : Plan) (held : List HeldResource) (n : Numbers) (h : List Event) (l : Later)
    (at : IsAtPoint g held n h l) (f : ℕ) (there : f < length (table_of g).frames.items) (u : ℕ)
    (next : IsNext g held h u (Leave f)) where
  abbrev x : Planned
  x = planned_by g held

  abbrev t : Table
  t = table_of g

  abbrev p : Progress
  p = progress h

  abbrev d : Deployment
  d = deployment_of g

  abbrev k : knowledge.Table
  k = known_now t l

  abbrev q : Position
  q = (scope_at t f).position

  abbrev pub whole : whole_of t ≡ d
  whole = at.under_way.is_planned.whole

  pub is_task : slice_get x.tasks u ≡ Some (leave q)
  is_task = planned_task (scopes_of t) g.tasks.items u (Leave f) next.is_task

  template_is : template_at d.template q ≡ Some (scope_at t f).template
  template_is =
      subst (λ (b : Deployment). template_at b.template q ≡ Some (scope_at t f).template) whole
      (at.under_way.is_planned.table.laid.kept f
      (let m = length-map t.frames.items opened_of in omega (arith, m, there))).template

  pub values_are : task_values d (leave q) ≡ map (leave_value d q) (names_of t f)
  values_are = ap (outputs_of (leave_value d q)) template_is

  pub is_value : (y : List ℕ) → Has y (names_of t f) → Has (leave_value d q y) (task_values d (leave q))
  is_value y i =
      subst (λ (vs : List TaskValue). Has (leave_value d q y) vs) (sym values_are)
      (has_map (leave_value d q) y (names_of t f) i)

  pub entered : IsEntered x p q
  entered =
      start_entered x t g.tasks.items g.keys.items refl at.under_way.numbers.of_scopes p u (leave q) is_task
      next.needs_done f there (entered_itself d q)

  pub told_stands : ((x : Planned) (p : Progress) (s : knowledge.Table) → IsSeen x p s → (w : ℕ) (task : Task)
      → p.status w ≡ is_waiting
      → ((j : ℕ) (other : Task) → slice_get x.tasks j ≡ Some other → needs_first x task other ≡ true → IsDone p j)
      → first_fault x.deployment s (task_values x.deployment task) ≡ None
      → readiness x s p.status w task ≡ ready (body_of x s task))
      → (ns : List Noted) → AreNoted t l f (names_of t f) ns → (v : Value) → json v ≡ null
      → IsStanding x p k u (Ready v)
  told_stands law ns noted v e = record {
    task = leave q;
    is_task = is_task;
    stands_as = (
      law x p k at.kept.seen u (leave q) next.waits_still
          (λ j other has needs. next.needs_done (leave q) j other is_task has needs)
          (ap (first_fault d k) values_are ∙ none_at_fault t l f d whole (names_of t f) ns noted)
          ∙ ap ready (sym e),
      tt,
    );
  }

  pub nothing_stands : (j : ℕ) → HasNothing t l f j → IsStanding x p k u Stuck
  nothing_stands j b = record {
    task = leave q;
    is_task = is_task;
    stands_as = record {
      lacking = leave_value d q b.name;
      is_value = is_value b.name b.has;
      is_none = subst (λ z. IsNone x p z)
          (sym (subst (λ (a : Deployment). told k (output_reading a q b.name) ≡ no_value) whole b.is_nothing)) tt;
    };
  }

  lacking_by : (y : List ℕ) → Has y (names_of t f) → (z : Lack)
      → Lacks t z (told k (output_reading (whole_of t) q y)) → IsLacking g held h l (leave q) z
  lacking_by y has z lacks = record {
    lacking = leave_value d q y;
    is_value = is_value y has;
    lacks = subst (λ (b : Deployment). Lacks t z (told k (output_reading b q y))) whole lacks;
    in_sight = λ c w.
        in_sight x p t l at.under_way.has_histories (start_of_plan g held n h l at) at.kept q entered c
        (outputs_await d q k y c w);
  }

  pub state_lacking : (i : ResourceId) → WaitsForState t l f i → IsLacking g held h l (leave q) (lack.State i)
  state_lacking i w = lacking_by w.name w.has (lack.State i) w.is_awaited

  pub line_lacking : (j : ℕ) → WaitsForLine t l f j → IsLacking g held h l (leave q) (lack.Line j)
  line_lacking j w = lacking_by w.name w.has (lack.Line j) (w.listed, w.is_awaited)

  pub stands_look : (m : Later) (s : Standing) → IsAnswer g held h l m u (leave q) (Some s)
      → IsLeaveLook g held h l m f u (Some (Stands s))
  stands_look m s a = (a.0, record { task = leave q; is_task = is_task; stands_as = a.1 })

  pub look_by : (m : Later) (o : Option Standing) (s : Standing) → o ≡ Some s → IsAnswer g held h l m u (leave q) o
      → IsLeaveLook g held h l m f u (Some (Stands s))
  look_by m o s e a = stands_look m s (subst (IsAnswer g held h l m u (leave q)) e a)
