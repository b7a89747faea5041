-- Why a scope cannot be left at the end of a deployment.
use Rattle.std.proofs.Common.{◌≡◌, inl, inr, ℕ, zero, suc, ◌<◌, Bool, true, false, List, [], ◌∷◌, ◌++◌, map, length}
use Rattle.std.proofs.Common.{Option, Some, None, refl, sym, ap, subst, ◌∙◌, arith}
use Rattle.std.specs.Prelude.{slice_get, Result, Ok, Err, IfOk, if◌then◌else◌}
use Rattle.std.specs.declared.alloc.AllocError.{AllocError}
use Rattle.arm_value.specs.Json.{Json, bool}
use Rattle.arm_ids.specs.Held.{HeldResource}
use Rattle.reading.specs.World.{Each}
use Rattle.reading.specs.Knowledge.{missing, Told, value, no_value, waits, told, Means}
use Rattle.reading.proofs.Completion.{told_means}
use Rattle.template_parts.specs.declared.fault.BindFault.{BindFault}
use Rattle.deploy_cells.specs.Cells.{Position, Cell, offered, output}
use Rattle.deploy_cells.specs.Guarded.{there_if}
use Rattle.plan_cells.specs.Known as knowledge
use Rattle.plan_cells.specs.Meaning.{Deployment, plain, raw}
use Rattle.plan_cells.specs.Tasks.{Task, leave}
use Rattle.plan_cells.specs.Children.{Has}
use Rattle.plan_cells.proofs.ListLemmas.{has_mapped}
use Rattle.plan_paths.specs.CellPaths.{cell_path}
use Rattle.plan_sight.specs.declared.lack.Lack.{Lack}
use Rattle.plan_table.specs.declared.table.Table.{Table}
use Rattle.plan_table.specs.Lines.{name_at}
use Rattle.plan_table.specs.Whole.{whole_of}
use Rattle.plan_table.specs.Found.{scope_at}
use Rattle.task_aims.specs.Plan.{Plan}
use Rattle.task_aims.specs.Task.TheVariants.{Leave}
use Rattle.task_aims.specs.Plans.{deployment_of}
use Rattle.task_aims.specs.Numbered.{TaskNumbers as Numbers}
use Rattle.deploy_histories.specs.Planned.{Planned}
use Rattle.deploy_histories.specs.Events as events
use Rattle.deploy_histories.specs.Events.{Event, crash, Progress, progress, IsDone, is_waiting, done_status}
use Rattle.deploy_histories.specs.Points.{IsTableOf}
use Rattle.deploy_histories.specs.Values.{TaskValue, a_cell, task_values, body_of, output_reading, leave_value}
use Rattle.deploy_histories.specs.Readiness.{Fault, lacks, is_told, fault_of_part, fault_of_cell, first_fault}
use Rattle.deploy_histories.specs.Readiness.{needs_first, readiness, at_fault, ready}
use Rattle.deploy_histories.proofs.ReadinessLemmas.{says_fault}
use Rattle.task_aims.specs.Planned.{planned_by}
use Rattle.awaited_cells.proofs.ValueLemmas.{outputs_await}
use Rattle.point_values.specs.Seen.{IsSeen}
use Rattle.point_rows.specs.declared.later.Later.{Later}
use Rattle.point_rows.specs.Rows.{known_now, told_now}
use Rattle.scope_faults.specs.Outputs.{names_of, reading_of}
use Rattle.scope_faults.specs.Circles.{IsAwait}
use Rattle.scope_faults.specs.Faults.{said_of, output_at, AreOutputLacks, HasCondition, IsOutputBroken}
use Rattle.scope_faults.specs.Faults.{IsLeaveFault, IsFirstOutput}
use Rattle.task_standings.specs.declared.standing.Failing.{Failing}
use Rattle.task_standings.specs.declared.standing.Failing.TheVariants.{Faulty, Needs}
use Rattle.task_standings.specs.declared.standing.TaskFault.{TaskFault}
use Rattle.task_standings.specs.Failures.{IsFailing}
use Rattle.plan_standings.specs.Waits.{table_of, IsNext, IsAtPoint, IsInSight}
use Rattle.plan_standings.specs.Tells.{tells, SaysFault}
use Rattle.plan_standings.specs.Ended.{IsOver}
use Rattle.plan_standings.specs.Needing.{IsNeed, IsFailingLook}
use Rattle.plan_standings.proofs.WaitLemmas.{in_sight}
use Rattle.plan_standings.proofs.AnswerLemmas.{start_of_plan}
use Rattle.plan_standings.proofs.LeaveLemmas.{by_condition, is_away, is_task, whole, values_are, is_value, entered}
use Rattle.plan_standings.proofs.EndLemmas.{BrokenIn, between_itself, fault_by, fault_says, value_needs, none_needed}
use Rattle.plan_standings.proofs.EndLemmas.{value_by_all, none_by_all, cell_fault_is, plain_waits, plain_output}
use Rattle.plan_standings.proofs.EndLemmas.{none_first, await_cell}

-- ---- lists

-- the names before one, of which each has this, and after it
record SplitsAt (P : List ℕ → Type 0) (xs : List (List ℕ)) (n : ℕ) : Type 0 where
  pub front : List (List ℕ)
  pub rest : List (List ℕ)
  pub is : xs ≡ front ++ name_at xs n ∷ rest
  pub before : Each P front

splits_at : (P : List ℕ → Type 0) (xs : List (List ℕ)) (n : ℕ) → n < length xs
    → ((i : ℕ) → i < n → P (name_at xs i)) → SplitsAt P xs n
splits_at P [] n h b = absurd (omega (arith, h))
splits_at P (x ∷ xs) zero h b = record { front = []; rest = xs; is = refl; before = tt }
splits_at P (x ∷ xs) (suc n) h b =
    let s = splits_at P xs n (omega (arith, h)) (λ i g. b (suc i) (omega (arith, g))) in
    record {
      front = x ∷ s.front;
      rest = s.rest;
      is = ap (λ (ys : List (List ℕ)). x ∷ ys) s.is;
      before = (b zero (omega arith), s.before);
    }

each_name : (P : List ℕ → Type 0) (xs : List (List ℕ)) (x : List ℕ) → Each P xs → Has x xs → P x
each_name P [] x e h = absurd h
each_name P (y ∷ ys) x e (inl q) = subst P q e.0
each_name P (y ∷ ys) x e (inr h) = each_name P ys x e.1 h

name_has : (xs : List (List ℕ)) (n : ℕ) → n < length xs → Has (name_at xs n) xs
name_has [] n h = absurd (omega (arith, h))
name_has (x ∷ xs) zero h = inl refl
name_has (x ∷ xs) (suc n) h = inr (name_has xs n (omega (arith, h)))

map_split : (f : List ℕ → TaskValue) (xs ys : List (List ℕ)) (x : List ℕ)
    → map f (xs ++ x ∷ ys) ≡ map f xs ++ f x ∷ map f ys
map_split f [] ys x = refl
map_split f (y ∷ xs) ys x = ap (λ (vs : List TaskValue). f y ∷ vs) (map_split f xs ys x)

-- a value that is none and waits for nothing is told
told_by : (u : Told Cell (Option Json)) → (u ≡ no_value → ⊥) → ((c : Cell) → u ≡ waits c → ⊥)
    → (o : Option Json) × (u ≡ value o)
told_by (value o) n w = (o, refl)
told_by no_value n w = absurd (n refl)
told_by (waits c) n w = absurd (w c refl)

-- ---- the leave of a scope

module _ (g : Plan) (held : List HeldResource) (n : Numbers) (h : List Event) (l : Later)
    (at : IsAtPoint g held n h l) (f : ℕ) (there : f < length (table_of g).frames.items) (u : ℕ)
    (next : IsNext g held h u (Leave f)) where
  abbrev x : Planned
  x = planned_by g held

  abbrev t : Table
  t = table_of g

  abbrev p : Progress
  p = progress h

  abbrev d : Deployment
  d = deployment_of g

  abbrev k : knowledge.Table
  k = known_now t l

  abbrev q : Position
  q = (scope_at t f).position

  abbrev the_value : List ℕ → TaskValue
  the_value y = leave_value d q y

  is_whole : whole_of t ≡ d
  is_whole = whole g held n h l at f there u next

  the_task : slice_get x.tasks u ≡ Some (leave q)
  the_task = is_task g held n h l at f there u next

  by_whole : (y : List ℕ) (z : Told Cell (Option Json)) → told_now t l (reading_of t f y) ≡ z
      → told k (output_reading d q y) ≡ z
  by_whole y z e = subst (λ (b : Deployment). told k (output_reading b q y) ≡ z) is_whole e

  back_whole : (y : List ℕ) (z : Told Cell (Option Json)) → told k (output_reading d q y) ≡ z
      → told_now t l (reading_of t f y) ≡ z
  back_whole y z e = subst (λ (b : Deployment). told k (output_reading b q y) ≡ z) (sym is_whole) e

  -- ---- what an output waits for

  module _ (y : List ℕ) (has : Has y (names_of t f)) (e : Cell) (awaited : told_now t l (reading_of t f y) ≡ waits e)
    where
      pub is_missing_then : k e ≡ missing
      is_missing_then =
          (subst (Means k (output_reading d q y)) (by_whole y (waits e) awaited)
          (told_means Cell Json (Option Json) k (output_reading d q y))).is_missing

      pub is_in_sight : IsInSight d k e
      is_in_sight =
          in_sight x p t l at.under_way.has_histories (start_of_plan g held n h l at) at.kept q
          (entered g held n h l at f there u next) e (outputs_await d q k y e (by_whole y (waits e) awaited))

      pub need_fails : (o : Option Failing) → IsNeed x p e o → IsFailingLook x p u o
      need_fails None i = tt
      need_fails (Some (Faulty said)) i = absurd i
      need_fails (Some (Needs v)) i = record {
        task = leave q;
        is_task = the_task;
        other = i.giver;
        is_other = i.is_task;
        is_undone = ap done_status next.waits_still;
        other_undone = i.is_undone;
        by_all = λ a all.
            value_needs x p k k a at.kept.seen all (between_itself x k a) (leave q) i.giver (the_value y)
            (is_value g held n h l at f there u next y has) e (by_whole y (waits e) awaited) i.gives;
      }

      pub need_result : (r : Result (Option Failing) AllocError) → IfOk r (IsNeed x p e) → IfOk r (IsFailingLook x p u)
      need_result (Ok o) i = need_fails o i
      need_result (Err z) i = tt

  -- ---- the first that has no value

  module _ (never_waits : AreOutputLacks t l f None) where
    never_told : (y : List ℕ) → Has y (names_of t f) → (c : Cell) → told k (output_reading d q y) ≡ waits c → ⊥
    never_told y has c e = never_waits y has c (back_whole y (waits c) e)

    value_never : (w : TaskValue) → Has w (task_values d (leave q)) → (c : Cell) → told k w.reading ≡ waits c → ⊥
    value_never w has c e =
        let y = has_mapped the_value w (names_of t f)
        (subst (Has w) (values_are g held n h l at f there u next) has) in
        never_told y.0 y.1.0 c (subst (λ (v : TaskValue). told k v.reading ≡ waits c) (sym y.1.1) e)

    module _ (i : ℕ) (within : i < length (names_of t f)) (first : IsFirstOutput t l f i) where
      abbrev y : List ℕ
      y = output_at t f i

      listed : Has y (names_of t f)
      listed = name_has (names_of t f) i within

      none : told k (output_reading d q y) ≡ no_value
      none = by_whole y no_value first.here

      -- where the condition is known, the output does not wait
      reading_waits : HasCondition t l q y → (e : Cell) → told k (there_if (raw d (output q y))) ≡ waits e → ⊥
      reading_waits (true, c) e w =
          let condition = subst (λ (b : Deployment). told k (plain b (offered q y)) ≡ value (Some (bool true)))
          is_whole c
          in
          let waits_there = plain_waits d k (output q y) (plain_output d q y) e w in
          let no : no_value ≡ waits e = sym none ∙ by_condition d k q y (Some (bool true)) condition ∙ waits_there in cc
      reading_waits (false, c) e w =
          let condition
          = subst (λ (b : Deployment). told k (plain b (offered q y)) ≡ value (Some (bool false))) is_whole c in
          let no : no_value ≡ value None = sym none ∙ is_away d k q y condition in cc

      abbrev Faulted : Fault → Type 0
      Faulted fault = (a : knowledge.Table) → IsTableOf x p a → fault_of_part d a (a_cell (output q y)) ≡ fault

      by_test : (a : knowledge.Table) (b : Bool) → is_told (told a (plain d (offered q y))) ≡ b
          → fault_of_part d a (a_cell (output q y))
          ≡ (if b then fault_of_cell d a (output q y) else lacks (a_cell (output q y)))
      by_test a b e =
          ap (λ (z : Bool). if z then fault_of_cell d a (output q y) else lacks (a_cell (output q y))) e

      condition_none : told k (plain d (offered q y)) ≡ no_value → Faulted (lacks (a_cell (output q y)))
      condition_none e a all =
          by_test a false
          (ap is_told (none_by_all x p k k a at.kept.seen all (between_itself x k a) (plain d (offered q y)) e))

      with_condition : HasCondition t l q y → (o : Option BindFault) (b : BrokenIn d k (output q y) o)
          → Faulted (fault_by d k (output q y) o b)
      with_condition c o b a all =
          by_test a true
          (ap is_told (value_by_all x p k k a at.kept.seen all (between_itself x k a) (plain d (offered q y))
          (Some (bool c.0))
          (subst (λ (z : Deployment). told k (plain z (offered q y)) ≡ value (Some (bool c.0))) is_whole c.1)))
          ∙ cell_fault_is x p k a at.kept.seen all (output q y) (λ e w. absurd (reading_waits c e w)) o b

      valued : (z : List ℕ) → (told_now t l (reading_of t f z) ≡ no_value → ⊥) → Has z (names_of t f)
          → (a : knowledge.Table) → IsTableOf x p a → (o : Option Json) × (told a (output_reading d q z) ≡ value o)
      valued z there_is has a all =
          let v = told_by (told k (output_reading d q z)) (λ e. there_is (back_whole z no_value e))
          (never_told z has) in
          (v.0, value_by_all x p k k a at.kept.seen all (between_itself x k a) (output_reading d q z) v.0 v.1)

      abbrev IsTold : List ℕ → Type 0
      IsTold z = (told_now t l (reading_of t f z) ≡ no_value → ⊥) × Has z (names_of t f)

      split : SplitsAt IsTold (names_of t f) i
      split =
          splits_at IsTold (names_of t f) i within
          (λ j b. (first.before j b, name_has (names_of t f) j (let c = b in omega (arith, c, within))))

      fails_by : (fault : Fault) → Faulted fault → (a : knowledge.Table) → IsTableOf x p a
          → readiness x a p.status u (leave q) ≡ at_fault fault
      fails_by fault is a all =
          says_fault x a p u (leave q) fault (record {
            is_free = record {
              waits_still = next.waits_still;
              needs_done =
                  none_needed x p k k a at.kept.seen all (between_itself x k a) (leave q)
                  (λ v other has needs. next.needs_done (leave q) v other the_task has needs) value_never;
            };
            unknown = the_value y;
            is_unknown = record {
              front = map the_value split.front;
              rest = map the_value split.rest;
              is =
                  values_are g held n h l at f there u next ∙ ap (map the_value) split.is
                  ∙ map_split the_value split.front split.rest y;
              before = λ w has.
                  let z = has_mapped the_value w split.front has in
                  let v = each_name IsTold split.front z.0 split.before z.1.0 in
                  subst (λ (b : TaskValue). (o : Option Json) × (told a b.reading ≡ value o)) z.1.1
                  (valued z.0 v.0 v.1 a all);
              here = λ o e.
                  let gone = none_by_all x p k k a at.kept.seen all (between_itself x k a) (output_reading d q y)
                  none in
                  let no : no_value ≡ value o = sym gone ∙ e in cc;
            };
            has_fault = is a all;
          })

      faulty : (fault : Fault) → Faulted fault → (said : TaskFault) → SaysFault x (leave q) fault said
          → IsFailing tells x p u (Faulty said)
      faulty fault is said says = (
        fault,
        ((leave q, (the_task, says)), record { task = leave q; is_task = the_task; by_all = fails_by fault is }),
      )

      there_broken : (o : Option BindFault) → BrokenIn (whole_of t) k (output q y) o → BrokenIn d k (output q y) o
      there_broken o b = subst (λ (z : Deployment). BrokenIn z k (output q y) o) is_whole b

      said_there : (o : Option BindFault) (said : TaskFault)
          → said ≡ said_of (cell_path (whole_of t).template (output q y)) o
          → said_of (cell_path d.template (output q y)) o ≡ said
      said_there o said e =
          sym (e ∙ ap (λ (b : Deployment). said_of (cell_path b.template (output q y)) o) is_whole)

      by_broken : HasCondition t l q y → (o : Option BindFault) (b : BrokenIn d k (output q y) o) (said : TaskFault)
          → said ≡ said_of (cell_path (whole_of t).template (output q y)) o → IsFailing tells x p u (Faulty said)
      by_broken c o b said e =
          faulty (fault_by d k (output q y) o b) (with_condition c o b) said
          (subst (SaysFault x (leave q) (fault_by d k (output q y) o b)) (said_there o said e)
          (fault_says x k (output q y) (leave q) o b))

      pub output_fails : (o : Option BindFault) → IsOutputBroken t l q y o → (said : TaskFault)
          → said ≡ said_of (cell_path (whole_of t).template (output q y)) o → IsFailing tells x p u (Faulty said)
      output_fails None (inl e) said is =
          faulty (lacks (a_cell (output q y)))
          (condition_none (subst (λ (z : Deployment). told k (plain z (offered q y)) ≡ no_value) is_whole e)) said
          (sym (said_there None said is))
      output_fails None (inr b) said is = by_broken b.0 None (there_broken None b.1) said is
      output_fails (Some z) b said is = by_broken b.0 (Some z) (there_broken (Some z) b.1) said is

    -- what is said of the first output without a value is said of the task
    pub leave_fails : (said : TaskFault) → IsLeaveFault t l f (Some said) → IsFailing tells x p u (Faulty said)
    leave_fails said (i, (within, (first, (o, (broken, is))))) = output_fails i within first o broken said is

    not_crash : events.leave u ≡ crash → ⊥
    not_crash e = cc

    -- where all have values the scope is left
    pub never_told_all : ((x : Planned) (p : Progress) (s : knowledge.Table) → IsSeen x p s → (w : ℕ) (task : Task)
        → p.status w ≡ is_waiting
        → ((j : ℕ) (other : Task) → slice_get x.tasks j ≡ Some other → needs_first x task other ≡ true → IsDone p j)
        → first_fault x.deployment s (task_values x.deployment task) ≡ None
        → readiness x s p.status w task ≡ ready (body_of x s task))
        → IsOver x p → IsLeaveFault t l f None → ⊥
    never_told_all law over all =
        not_crash (over.nothing_may (events.leave u) (
          q,
          record {
            unrefused = over.unrefused;
            is_task = the_task;
            known = k;
            is_known = at.kept.seen.known_then;
            is_ready =
                law x p k at.kept.seen u (leave q) next.waits_still
                (λ j other has needs. next.needs_done (leave q) j other the_task has needs)
                (none_first d k (task_values d (leave q)) told_value);
          },
        ))
      where
        told_value : (w : TaskValue) → Has w (task_values d (leave q))
            → (o : Option Json) × (told k w.reading ≡ value o)
        told_value w has =
            let z = has_mapped the_value w (names_of t f)
            (subst (Has w) (values_are g held n h l at f there u next) has) in
            subst (λ (v : TaskValue). (o : Option Json) × (told k v.reading ≡ value o)) z.1.1
            (told_by (told k (output_reading d q z.0)) (λ e. all z.0 z.1.0 (back_whole z.0 no_value e))
            (never_told z.0 z.1.0))

  -- ---- what is answered

  pub lack_result : (z : Lack) → AreOutputLacks t l f (Some z) → (r : Result (Option Failing) AllocError)
      → ((c : Cell) → IsAwait {A = Json} t z (waits c) → k c ≡ missing → IsInSight d k c → IfOk r (IsNeed x p c))
      → IfOk r (IsFailingLook x p u)
  lack_result z (y, (has, w)) r given =
      let e = await_cell t z (told_now t l (reading_of t f y)) w in
      need_result y has e.0 e.1.0 r
      (given e.0 e.1.1 (is_missing_then y has e.0 e.1.0) (is_in_sight y has e.0 e.1.0))

  pub lack_awaits : (z : Lack) → AreOutputLacks t l f (Some z) → (c : Cell) × IsAwait {A = Json} t z (waits c)
  lack_awaits z (y, (has, w)) =
      let e = await_cell t z (told_now t l (reading_of t f y)) w in (e.0, e.1.1)
