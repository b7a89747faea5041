-- Looks one after another at why a task cannot begin.
use Rattle.std.proofs.Common.{◌≡◌, ◌⊎◌, ℕ, suc, ◌<◌, ◌-◌, ◌^◌, List, length, Option, Some, None, true, refl, sym, ap}
use Rattle.std.proofs.Common.{subst, ◌∙◌}
use Rattle.std.specs.Prelude.{slice_get, Result, Ok, Err, IfOk}
use Rattle.std.specs.declared.alloc.AllocError.{AllocError}
use Rattle.arm_value.specs.Json.{null}
use Rattle.arm_ids.specs.Held.{HeldResource}
use Rattle.arm_ids.specs.declared.id.ResourceId.{ResourceId}
use Rattle.reading.specs.Knowledge.{missing, absent}
use Rattle.plan_cells.specs.Children.{Has}
use Rattle.plan_cells.specs.Known as knowledge
use Rattle.plan_cells.specs.Tasks as tasks
use Rattle.plan_sight.specs.declared.lack.Lack.{Lack}
use Rattle.plan_table.specs.declared.table.Table.{Table}
use Rattle.plan_table.specs.Whole.{scopes_of}
use Rattle.task_aims.specs.Plan.{Plan}
use Rattle.task_aims.specs.Task.TheVariants.{Delete}
use Rattle.task_aims.specs.Numbered.{TaskNumbers as Numbers}
use Rattle.deploy_histories.specs.Planned.{Planned}
use Rattle.deploy_histories.specs.Events as events
use Rattle.deploy_histories.specs.Events.{Event, crash, Progress, progress, is_waiting, IsDone}
use Rattle.deploy_histories.specs.Values.{task_values, body_of}
use Rattle.deploy_histories.specs.Readiness.{first_fault, needs_first, readiness, ready}
use Rattle.task_aims.specs.Planned.{planned_by}
use Rattle.point_values.specs.Seen.{IsSeen}
use Rattle.point_rows.specs.declared.later.Later.{Later}
use Rattle.point_rows.specs.Rows.{known_now, HasSame}
use Rattle.point_rows.proofs.GrowthLemmas.{same_known}
use Rattle.point_rows.proofs.RowsNowLemmas.{indexed_on}
use Rattle.scope_faults.specs.Entries.{own_of, AreTold}
use Rattle.scope_faults.proofs.GoesLemmas.{told_with_states}
use Rattle.scope_faults.specs.Circles.{IsVacated, IsCircleLack}
use Rattle.task_standings.specs.declared.standing.Failing.{Failing}
use Rattle.task_standings.specs.Failures.{IsFailing}
use Rattle.plan_standings.specs.Waits.{table_of, IsNext, IsAtPoint, HasStates}
use Rattle.plan_standings.specs.Answers.{IsOneMore}
use Rattle.plan_standings.specs.Needing.{IsNeverFilled, IsFailingLook}
use Rattle.plan_standings.specs.Tells.{tells}
use Rattle.plan_standings.specs.Ended.{IsOver}
use Rattle.plan_standings.proofs.NumberedLemmas.{planned_task}
use Rattle.plan_standings.proofs.StateLemmas.{same_states, states_on, point_on, fewer_left}

-- what was set and taken back leaves the same known
module _ (g : Plan) (held : List HeldResource) (n : Numbers) (h : List Event) (l m : Later)
    (at : IsAtPoint g held n h l) (entries : m.entries.items ≡ l.entries.items)
    (states : m.states.items ≡ l.states.items)
    (places : m.places ≡ l.places) where
  abbrev t : Table
  t = table_of g

  has_same : HasSame l m
  has_same = record { states = states; entries = entries }

  pub same_now : HasStates g held h l m
  same_now = same_states g held n h l m at (indexed_on l m states places at.fit.indexed) has_same

  pub point_same : IsAtPoint g held n h m
  point_same = point_on g held n h l m at same_now

  pub told_same : AreTold t l → AreTold t m
  told_same a = told_with_states t l m same_now.grows entries a

  known_same : known_now t m ≡ known_now t l
  known_same = same_known t l m has_same

  pub filled_same : (f : ℕ) → IsNeverFilled g held h l f → IsNeverFilled g held h m f
  filled_same f filled a all c own gone =
      filled a all c own (subst (λ (q : knowledge.Table). q c ≡ missing) known_same gone)

  vacated_same : (f : ℕ) (k : Later) → IsVacated t f l k → IsVacated t f m k
  vacated_same f k v = record {
    cells = λ c.
        subst (λ (q : knowledge.Table). (known_now t k c ≡ q c)
        ⊎ (Has c (own_of t f) × ((q c ≡ missing) × (known_now t k c ≡ absent)))) (sym known_same) (v.cells c);
    all = v.all;
  }

  pub circle_same : (f : ℕ) (o : Option Lack) → IsCircleLack t l f o → IsCircleLack t m f o
  circle_same f o c = (c.0, (vacated_same f c.0 c.1.0, c.1.1))

  pub states_same : (k : Later) → HasStates g held h m k → HasStates g held h l k
  states_same k s = states_on g held h l m k same_now s

  one_more_same : (k : Later) (o : Option Failing) → IsOneMore m k o → IsOneMore l k o
  one_more_same k None e = e ∙ ap (λ xs. suc (length xs)) states
  one_more_same k (Some f) e = tt

  pub more_same : (k : Later) (r : Result (Option Failing) AllocError) → IfOk r (IsOneMore m k) → IfOk r (IsOneMore l k)
  more_same k (Ok o) e = one_more_same k o e
  more_same k (Err y) e = tt

pub some_failing : (x : Planned) (p : Progress) (u : ℕ) (o : Option Failing) (f : Failing) → o ≡ Some f
    → IsFailingLook x p u o → IsFailing tells x p u f
some_failing x p u o f e h = subst (IsFailingLook x p u) e h

pub failing_fewer : (m k j : Later) (o : Option Failing) → k.states.items ≡ m.states.items → o ≡ None
    → IsOneMore k j o → 2 ^ 63 - length j.states.items < 2 ^ 63 - length m.states.items
failing_fewer m k j o e n h =
    subst (λ (i : ℕ). 2 ^ 63 - length j.states.items < 2 ^ 63 - i) (ap length e)
    (fewer_left k j (subst (λ (z : Option Failing). IsOneMore k j z) n h))

not_crash : (u : ℕ) → events.begin u 0 null ≡ crash → ⊥
not_crash u e = cc

-- a deletion may begin
pub never_deletes : ((x : Planned) (p : Progress) (s : knowledge.Table) → IsSeen x p s → (w : ℕ) (task : tasks.Task)
    → p.status w ≡ is_waiting
    → ((j : ℕ) (other : tasks.Task) → slice_get x.tasks j ≡ Some other → needs_first x task other ≡ true
    → IsDone p j)
    → first_fault x.deployment s (task_values x.deployment task) ≡ None
    → readiness x s p.status w task ≡ ready (body_of x s task))
    → (g : Plan) (held : List HeldResource) (n : Numbers) (h : List Event) (l : Later) → IsAtPoint g held n h l
    → (u : ℕ) (k : ResourceId) → IsNext g held h u (Delete k) → IsOver (planned_by g held) (progress h) → ⊥
never_deletes law g held n h l at u k next over =
    let x = planned_by g held in
    let has = planned_task (scopes_of (table_of g)) g.tasks.items u (Delete k) next.is_task in
    not_crash u (over.nothing_may (events.begin u 0 null) (
      tasks.delete k,
      (
        tt,
        record {
          unrefused = over.unrefused;
          is_task = has;
          known = known_now (table_of g) l;
          is_known = at.kept.seen.known_then;
          is_ready =
              law x (progress h) (known_now (table_of g) l) at.kept.seen u (tasks.delete k) next.waits_still
              (λ j other is needs. next.needs_done (tasks.delete k) j other has is needs) refl;
        },
      ),
    ))
