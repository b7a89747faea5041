-- Why a put cannot begin, by its readiness.
use Rattle.std.proofs.Common.{◌≡◌, inl, inr, ℕ, Bool, true, false, true≢false, List, [], ◌∷◌, Option, Some, None}
use Rattle.std.proofs.Common.{refl, sym, ap, subst, ◌∙◌}
use Rattle.std.specs.Prelude.{slice_get, Result, Ok, Err, IfOk}
use Rattle.std.specs.declared.alloc.AllocError.{AllocError}
use Rattle.std.specs.List.{list_any}
use Rattle.std.proofs.lemmas.Bool.{or_cases}
use Rattle.foundation.proofs.TruthValues.{first_alone}
use Rattle.arm_value.specs.Json.{Json}
use Rattle.arm_value.specs.View.{json}
use Rattle.arm_value.specs.declared.value.Value.{Value}
use Rattle.arm_ids.specs.Held.{HeldResource}
use Rattle.reading.specs.World.{reads_in, Each}
use Rattle.reading.specs.Knowledge.{Known, missing, Told, value, no_value, told, blanked, IsThere, IsFinal, Means}
use Rattle.reading.specs.Knowledge.{Grows}
use Rattle.reading.proofs.Completion.{told_means}
use Rattle.reading.proofs.Growth.{told_still}
use Rattle.reading.specs.Knowledge.{IsToldStill}
use Rattle.deploy_cells.specs.Cells.{Cell, Position}
use Rattle.deploy_cells.specs.Guarded.{Reads, there_if}
use Rattle.plan_cells.specs.Known as known
use Rattle.plan_cells.specs.Meaning.{Deployment, bodies}
use Rattle.plan_cells.specs.Start.{start_world}
use Rattle.plan_cells.specs.Tasks as tasks
use Rattle.plan_cells.specs.Reads.{is_given_by}
use Rattle.plan_table.specs.declared.frame.Instance.{Instance}
use Rattle.plan_table.specs.declared.table.Table.{Table}
use Rattle.plan_table.specs.Opened.{step_of}
use Rattle.plan_table.specs.Whole.{whole_of, scopes_of}
use Rattle.plan_table.specs.Found.{scope_at}
use Rattle.plan_paths.specs.Texts.{a_path, instance_text}
use Rattle.task_aims.specs.Plan.{Plan}
use Rattle.task_aims.specs.Task.TheVariants.{Put}
use Rattle.task_aims.specs.Plans.{deployment_of}
use Rattle.deploy_histories.specs.Planned.{Planned}
use Rattle.deploy_histories.specs.Events.{Event, begin, crash, Progress, progress, done_status, IsDone}
use Rattle.deploy_histories.specs.Points.{IsTableOf}
use Rattle.deploy_histories.specs.Values.{TaskValue, a_body, body_reading, reads_from, needs_by_values}
use Rattle.deploy_histories.specs.Readiness.{lacks, at_fault, readiness, needs_first, needs_now}
use Rattle.deploy_histories.specs.Legal.{IsAct}
use Rattle.deploy_histories.proofs.ReadinessLemmas.{says_fault, table_grows}
use Rattle.task_aims.specs.Planned.{planned_by}
use Rattle.point_values.specs.Seen.{IsSeen}
use Rattle.point_rows.specs.declared.later.Later.{Later}
use Rattle.point_rows.specs.Rows.{known_now}
use Rattle.task_standings.specs.declared.standing.TaskFault.{TaskFault}
use Rattle.task_standings.specs.declared.standing.TaskFault.TheVariants.{NoValue}
use Rattle.task_standings.specs.declared.standing.Standing.TheVariants.{Ready, Waits}
use Rattle.task_standings.specs.declared.standing.Failing.{Failing}
use Rattle.task_standings.specs.declared.standing.Failing.TheVariants.{Faulty}
use Rattle.task_standings.specs.Standings as standings
use Rattle.task_standings.specs.Standings.{IsStanding}
use Rattle.task_standings.specs.Failures.{NeedsUndone, TellsFault, IsFailing}
use Rattle.task_standings.proofs.Agreement.{more_completes}
use Rattle.plan_standings.specs.Waits.{table_of, IsNext}
use Rattle.plan_standings.proofs.NumberedLemmas.{planned_task}
use Rattle.plan_standings.specs.Puts.{IsBodyless}
use Rattle.plan_standings.specs.Ended.{IsOver}
use Rattle.plan_standings.specs.Tells.{tells}

-- ---- what is read for a value that is none was given by tasks that are done

pub any_there : (f : Cell → Bool) (P : Cell → Type 0) (cs : List Cell) → list_any f cs ≡ true → Each P cs
    → (c : Cell) × ((f c ≡ true) × P c)
any_there f P [] e h = absurd (true≢false (sym e))
any_there f P (c ∷ cs) e h = elim (or_cases (f c) (list_any f cs) e) [
  | inl g ↦ (c, (g, h.0))
  | inr g ↦ any_there f P cs g h.1
]

not_there : (k : Known Json) → k ≡ missing → IsThere k → ⊥
not_there k e h = subst IsThere e h

module _ (x : Planned) (p : Progress) (s : known.Table) (seen : IsSeen x p s) where
  pub given_done : (v : ℕ) (other : tasks.Task) → slice_get x.tasks v ≡ Some other → (c : Cell)
      → is_given_by x.deployment (start_world x.known) other c ≡ true → IsThere (s c) → (b : Bool)
      → done_status (p.status v) ≡ b → b ≡ true
  given_done v other is c given there true e = refl
  given_done v other is c given there false e = absurd (not_there (s c) (seen.hides v other c is given e) there)

  module _ (t : known.Table) (all : IsTableOf x p t) (r : Reads (Option Json)) (none : told s r ≡ no_value) where
    grows : Grows s t
    grows = table_grows x p s t seen.known_then all

    final : IsFinal s r None
    final =
        subst (λ (z : Told Cell (Option Json)). Means s r z) none (told_means Cell Json (Option Json) s r)

    -- what is read by all that is known is there
    reads_there : Each (λ c. IsThere (s c)) (reads_in (blanked t) r)
    reads_there =
        subst (λ (cs : List Cell). Each (λ c. IsThere (s c)) cs)
        (sym (final.everywhere (blanked t) (more_completes s t grows)).1) final.complete

    still_none : told t r ≡ no_value
    still_none =
        subst (λ (z : Told Cell (Option Json)). IsToldStill t r z) none
        (told_still Cell Json (Option Json) s t grows r)

    never_value : (o : Option Json) → told t r ≡ value o → ⊥
    never_value o e = let f = sym still_none ∙ e in cc

    read_done : (v : ℕ) (other : tasks.Task) → slice_get x.tasks v ≡ Some other
        → list_any (λ c. is_given_by x.deployment (start_world x.known) other c) (reads_in (blanked t) r) ≡ true
        → IsDone p v
    read_done v other is e =
        let c = any_there (λ c. is_given_by x.deployment (start_world x.known) other c) (λ c. IsThere (s c))
        (reads_in (blanked t) r) e reads_there in
        given_done v other is c.0 c.1.0 c.1.1 (done_status (p.status v)) refl

-- ---- the put of an instance

not_crash : (u : ℕ) (j : Json) → begin u 0 j ≡ crash → ⊥
not_crash u j e = cc

module _ (g : Plan) (held : List HeldResource) (h : List Event) (m : Later) (u f : ℕ) (i : Instance)
    (seen : IsSeen (planned_by g held) (progress h) (known_now (table_of g) m))
    (next : IsNext g held h u (Put f i.resource i.copy)) where
  abbrev x : Planned
  x = planned_by g held

  abbrev t : Table
  t = table_of g

  abbrev p : Progress
  p = progress h

  abbrev k : known.Table
  k = known_now t m

  abbrev q : Position
  q = (scope_at t f).position

  abbrev the_put : tasks.Task
  the_put = tasks.put q (step_of i)

  is_task : slice_get x.tasks u ≡ Some the_put
  is_task = planned_task (scopes_of t) g.tasks.items u (Put f i.resource i.copy) next.is_task

  same_task : (a b : tasks.Task) → Some a ≡ Some b → a ≡ b
  same_task a b e = cc

  -- a put that is ready may begin
  pub never_ready : IsOver x p → (v : Value) → IsStanding x p k u (Ready v) → ⊥
  never_ready over v s =
      not_crash u (json v)
      (over.nothing_may (begin u 0 (json v)) (
        s.task,
        (
          subst IsAct (same_task the_put s.task (sym is_task ∙ s.is_task)) tt,
          record {
            unrefused = over.unrefused;
            is_task = s.is_task;
            known = k;
            is_known = seen.known_then;
            is_ready = s.stands_as.0;
          },
        ),
      ))

  -- a put that waits needs the task that it waits for
  pub needs_other : ((x : Planned) (p : Progress) (t : known.Table) → IsTableOf x p t → (task giver : tasks.Task)
      → standings.Needs x p task giver → needs_now x t task giver ≡ true)
      → (v : ℕ) → IsStanding x p k u (Waits v) → NeedsUndone x p u v
  needs_other law v s =
      let w = s.stands_as in
      record {
        task = s.task;
        is_task = s.is_task;
        other = w.1.0;
        is_other = w.1.1.0;
        is_undone = ap done_status next.waits_still;
        other_undone = w.0;
        by_all = λ a all.
            law x p a all s.task w.1.0 (inr (record { known = k; is_known = seen.known_then; waits_for = w.1.1.1 }));
      }

  -- a put without a body is at fault
  module _ (whole : whole_of t ≡ deployment_of g) (bodyless : IsBodyless g m f i) where
    abbrev the_value : TaskValue
    the_value = record { part = a_body; reading = body_reading (deployment_of g) q (step_of i) }

    none_told : told k the_value.reading ≡ no_value
    none_told = subst (λ (d : Deployment). told k (there_if (bodies d q (step_of i))) ≡ no_value) whole bodyless

    none_needed : (a : known.Table) → IsTableOf x p a → (v : ℕ) (other : tasks.Task)
        → slice_get x.tasks v ≡ Some other → needs_now x a the_put other ≡ true → IsDone p v
    none_needed a all v other is e =
        elim (or_cases (needs_first x the_put other) (needs_by_values x a the_put other) e) [
          | inl b ↦ next.needs_done the_put v other is_task is b
          | inr b ↦
              read_done x p k seen a all the_value.reading none_told v other is
              (first_alone (reads_from x a other the_value) b)
        ]

    at_fault_by : (a : known.Table) → IsTableOf x p a
        → readiness x a p.status u the_put ≡ at_fault (lacks a_body)
    at_fault_by a all =
        says_fault x a p u the_put (lacks a_body)
        (record {
          is_free = record { waits_still = next.waits_still; needs_done = none_needed a all };
          unknown = the_value;
          is_unknown = record {
            front = [];
            rest = [];
            is = refl;
            before = λ b i. absurd i;
            here = never_value x p k seen a all the_value.reading none_told;
          };
          has_fault = refl;
        })

    abbrev the_fault : TaskFault
    the_fault = NoValue (instance_text a_path (whole_of t).template q (step_of i))

    is_faulty : TellsFault tells x p u the_fault
    is_faulty = (
      lacks a_body,
      (
        (
          the_put,
          (is_task, ap (λ (d : Deployment). NoValue (instance_text a_path d.template q (step_of i))) whole),
        ),
        record { task = the_put; is_task = is_task; by_all = at_fault_by },
      ),
    )

    pub fails_so : (r : Result Failing AllocError) → IfOk r (λ a. a ≡ Faulty the_fault)
        → IfOk r (IsFailing tells x p u)
    fails_so (Ok a) e = subst (IsFailing tells x p u) (sym e) is_faulty
    fails_so (Err e) b = tt
