-- What is told of the body of a put, and the readiness of the put.
use Rattle.std.proofs.Common.{◌≡◌, inl, ℕ, List, Option, Some, None, refl, sym, ap, subst, ◌∙◌, true}
use Rattle.std.specs.Prelude.{slice_get, Result, Ok, Err, IfOk}
use Rattle.std.specs.declared.alloc.AllocError.{AllocError}
use Rattle.deploy_cells.proofs.SameLemmas.{position_same}
use Rattle.arm_value.specs.Json.{Json, Member}
use Rattle.arm_value.specs.View.{json}
use Rattle.arm_value.specs.declared.value.Value.{Value}
use Rattle.arm_ids.specs.Held.{HeldResource}
use Rattle.reading.specs.Reading.{pure}
use Rattle.reading.specs.Knowledge.{Told, value, no_value, waits, and_then, Grows, IsToldStill}
use Rattle.reading.proofs.Growth.{told_still}
use Rattle.template_tree.specs.Tree.{BodyTree, body_members, deployment}
use Rattle.deploy_cells.specs.Cells.{Cell, Position, step}
use Rattle.deploy_cells.specs.Guarded.{Reads, there, there_if}
use Rattle.plan_cells.specs.Known as known
use Rattle.plan_cells.specs.Resources.{members_in, nested_in}
use Rattle.plan_cells.specs.Meaning.{Deployment, bodies}
use Rattle.plan_cells.specs.Tasks.{Task, enter, put}
use Rattle.plan_table.specs.declared.table.Table.{Table}
use Rattle.plan_table.specs.declared.frame.Instance.{Instance}
use Rattle.plan_table.specs.Opened.{step_of}
use Rattle.plan_table.specs.Whole.{whole_of, scopes_of}
use Rattle.plan_table.specs.Found.{scope_at}
use Rattle.plan_sight.specs.declared.lack.Lack.{Lack}
use Rattle.plan_sight.specs.declared.lack.Lack.TheVariants as lack
use Rattle.plan_sight.specs.Ready.{IsReady}
use Rattle.plan_sight.specs.Seen.{Lacks}
use Rattle.scope_faults.specs.Symbols.{IsComplete}
use Rattle.task_aims.specs.Plan.{Plan}
use Rattle.task_aims.specs.Task.TheVariants.{Put}
use Rattle.task_aims.specs.Plans.{deployment_of, IsPlanned}
use Rattle.task_aims.specs.Numbered.{TaskNumbers as Numbers}
use Rattle.task_aims.specs.Numbers.{IsOfTable}
use Rattle.deploy_histories.specs.Planned.{Planned}
use Rattle.deploy_histories.specs.Events.{Event, Progress, progress, IsDone, is_waiting}
use Rattle.deploy_histories.specs.Values.{TaskValue, a_body, task_values, body_reading, body_of, value_or_null}
use Rattle.deploy_histories.specs.Readiness.{first_fault, fault_or, needs_first, readiness, ready}
use Rattle.task_aims.specs.Planned.{planned_by}
use Rattle.point_values.specs.Seen.{IsSeen}
use Rattle.point_rows.specs.declared.later.Later.{Later}
use Rattle.point_rows.specs.Rows.{known_now, told_now}
use Rattle.point_rows.proofs.ToldNowLemmas.{told_pure, goes}
use Rattle.scope_faults.proofs.BodyLemmas.{members_read, body_is}
use Rattle.awaited_cells.proofs.ValueLemmas.{bodies_await}
use Rattle.body_shapes.proofs.ShapeLemmas.{fits}
use Rattle.task_standings.specs.Standings.{StandsAs, IsStanding}
use Rattle.task_standings.specs.declared.standing.Standing.{Standing}
use Rattle.task_standings.specs.declared.standing.Standing.TheVariants.{Ready, Stuck}
use Rattle.plan_standings.specs.Waits.{table_of, IsNext, IsAtPoint, IsEntered}
use Rattle.plan_standings.specs.Answers.{IsLacking, IsAnswer}
use Rattle.plan_standings.proofs.NumberedLemmas.{planned_task, entered_before, start_entered}
use Rattle.plan_standings.proofs.WaitLemmas.{in_sight}
use Rattle.plan_standings.proofs.AnswerLemmas.{start_of_plan}
use Rattle.plan_standings.specs.Puts.{IsLookAt, IsBodyless}

pub complete : (g : Plan) (held : List HeldResource) → IsPlanned g held → IsComplete g.start.register
complete g held p = record {
  ready = record { laid = p.table.laid; sound = p.table.filled.sound };
  kept = p.sheet.kept;
}

-- ---- what is put has a body

has_members : (b : BodyTree) → nested_in b ≡ None → (ms : List Member) × (members_in b ≡ Some ms)
has_members (body_members ms) e = (ms, refl)
has_members (deployment sc ps r) e = absurd (cc)

abbrev there_value : Json → Told Cell (Option Json)
there_value v = value (Some v)

some_value : (u : Told Cell Json) → and_then u there_value ≡ value None → ⊥
some_value (value v) e = let f : there_value v ≡ value None = e in cc
some_value no_value e = cc
some_value (waits c) e = cc

module _ (t : Table) (l : Later) where
  there_not_none : (r : Reads Json) → told_now t l (there r) ≡ value None → ⊥
  there_not_none r e =
      let same : there_value ≡ (λ v. told_now t l (pure (Some v))) = λ i v. sym (told_pure t l (Some v)) i in
      some_value (told_now t l r)
      (ap (λ (f : Json → Told Cell (Option Json)). and_then (told_now t l r) f) same
      ∙ sym (goes t l r (λ v. pure (Some v))) ∙ e)

  module _ (f r i : ℕ) (ready : IsReady t) (of_table : IsOfTable t (Put f r i)) where
    pub not_none : told_now t l (there_if (bodies (whole_of t) (scope_at t f).position (step r i))) ≡ value None → ⊥
    not_none e =
        let n = of_table.1.0 in
        let ms = has_members n.listed.content (of_table.1.1.1 n.listed n.has) in
        there_not_none (members_read t f ready of_table.0 (step r i) n ms.0)
        (ap (λ o. told_now t l (there_if o))
        (sym (body_is t f ready of_table.0 (step r i) n ms.0 ms.1)) ∙ e)

    pub not_lacking : (e : Lack)
        → Lacks t e (told_now t l (there_if (bodies (whole_of t) (scope_at t f).position (step r i))))
        → e ≡ lack.NotThere → ⊥
    not_lacking e h q =
        not_none
        (subst (λ z. Lacks {A = Json} t z (told_now t l (there_if (bodies (whole_of t) (scope_at t f).position
        (step r i))))) q h)

-- ---- the readiness of the put

module _ (g : Plan) (held : List HeldResource) (n : Numbers) (h : List Event) (l : Later)
    (at : IsAtPoint g held n h l) (f : ℕ) (i : Instance)
    (of_table : IsOfTable (table_of g) (Put f i.resource i.copy)) where
  abbrev x : Planned
  x = planned_by g held

  abbrev t : Table
  t = table_of g

  abbrev p : Progress
  p = progress h

  abbrev q : Position
  q = (scope_at t f).position

  -- by what is deployed
  abbrev BodyTold : Told Cell (Option Json) → Type 0
  BodyTold u = told_now t l (body_reading (deployment_of g) q (step_of i)) ≡ u

  pub body_told : (u : Told Cell (Option Json))
      → told_now t l (there_if (bodies (whole_of t) q (step_of i))) ≡ u → BodyTold u
  body_told u e =
      subst (λ (d : Deployment). told_now t l (body_reading d q (step_of i)) ≡ u) at.under_way.is_planned.whole e

  abbrev the_put : Task
  the_put = put q (step_of i)

  abbrev the_value : TaskValue
  the_value = record { part = a_body; reading = body_reading (deployment_of g) q (step_of i) }

  module _ (u : ℕ) (next : IsNext g held h u (Put f i.resource i.copy)) where
    pub is_task : slice_get x.tasks u ≡ Some the_put
    is_task = planned_task (scopes_of t) g.tasks.items u (Put f i.resource i.copy) next.is_task

    entered : IsEntered x p q
    entered =
        start_entered x t g.tasks.items g.keys.items refl at.under_way.numbers.of_scopes p u the_put is_task
        next.needs_done f of_table.0 (entered_before (deployment_of g) the_put (enter q) (position_same q))

    -- a body that lacks something
    pub body_lacks : (e : Lack) → Lacks t e (told_now t l (there_if (bodies (whole_of t) q (step_of i))))
        → IsLacking g held h l the_put e
    body_lacks e lacks = record {
      lacking = the_value;
      is_value = inl refl;
      lacks = subst (λ (d : Deployment). Lacks t e (told_now t l (body_reading d q (step_of i))))
          at.under_way.is_planned.whole lacks;
      in_sight = λ c e.
          in_sight x p t l at.under_way.has_histories (start_of_plan g held n h l at) at.kept q entered c
          (bodies_await (deployment_of g) q (known_now t l) (step_of i) c e);
    }

    -- a body that has a value
    pub body_stands : (v : Value) → told_now t l (there_if (bodies (whole_of t) q (step_of i))) ≡ value (Some (json v))
        → ((x : Planned) (p : Progress) (s : known.Table) → IsSeen x p s → (w : ℕ) (task : Task)
        → p.status w ≡ is_waiting
        → ((j : ℕ) (other : Task) → slice_get x.tasks j ≡ Some other → needs_first x task other ≡ true → IsDone p j)
        → first_fault x.deployment s (task_values x.deployment task) ≡ None
        → readiness x s p.status w task ≡ ready (body_of x s task))
        → StandsAs x p (known_now t l) u the_put (Ready v)
    body_stands v e law =
        let told_is = body_told (value (Some (json v))) e in (
          law x p (known_now t l) at.kept.seen u the_put next.waits_still
              (λ j other has needs. next.needs_done the_put j other is_task has needs)
              (ap (λ z. fault_or (deployment_of g) (known_now t l) a_body z None) told_is)
              ∙ ap (λ z. ready (value_or_null z)) told_is,
          fits (deployment_of g) (known_now t l) q (step_of i) (json v) told_is,
        )

    pub stands_look : (m : Later) (o : Option Standing) → IsAnswer g held h l m u the_put o → IsLookAt g held h l m u o
    stands_look m None a = tt
    stands_look m (Some s) a = record { task = the_put; is_task = is_task; stands_as = a.1 }

-- what was answered of the put
module _ (g : Plan) (held : List HeldResource) (n : Numbers) (h : List Event) (l : Later)
    (at : IsAtPoint g held n h l) (f : ℕ) (i : Instance)
    (of_table : IsOfTable (table_of g) (Put f i.resource i.copy)) (u : ℕ)
    (next : IsNext g held h u (Put f i.resource i.copy)) (m : Later) where
  pub look_by : (r : Result (Option Standing) AllocError)
      → IfOk r (IsAnswer g held h l m u (put (scope_at (table_of g) f).position (step_of i)))
      → IfOk r (IsLookAt g held h l m u)
  look_by (Ok o) a = stands_look g held n h l at f i of_table u next m o a
  look_by (Err e) a = tt

pub some_look : (g : Plan) (held : List HeldResource) (h : List Event) (l m : Later) (u : ℕ) (o : Option Standing)
    (s : Standing) → o ≡ Some s → IsLookAt g held h l m u o
    → IsStanding (planned_by g held) (progress h) (known_now (table_of g) m) u s
some_look g held h l m u o s e a = subst (IsLookAt g held h l m u) e a

-- a body that has no value has none as more is known
module _ (g : Plan) (l m : Later) (f : ℕ) (i : Instance) (grows : Grows (known_now (table_of g) l)
    (known_now (table_of g) m)) where
  abbrev the_body : Reads (Option Json)
  the_body = there_if (bodies (whole_of (table_of g)) (scope_at (table_of g) f).position (step_of i))

  bodyless_on : IsBodyless g l f i → IsBodyless g m f i
  bodyless_on e =
      subst (IsToldStill (known_now (table_of g) m) the_body) e
      (told_still Cell Json (Option Json) (known_now (table_of g) l) (known_now (table_of g) m) grows the_body)

  pub bodyless_by : (r : Result (Option Standing) AllocError) (e : Lack)
      → Lacks (table_of g) e (told_now (table_of g) l the_body) → IfOk r (λ o. o ≡ Some Stuck → e ≡ lack.NoValue)
      → IfOk r (λ o. o ≡ Some Stuck → IsBodyless g m f i)
  bodyless_by (Ok o) e lacks a = λ h.
      bodyless_on (subst (λ z. Lacks {A = Json} (table_of g) z (told_now (table_of g) l the_body)) (a h) lacks)
  bodyless_by (Err b) e lacks a = tt
