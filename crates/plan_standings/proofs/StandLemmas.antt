-- The readiness of a task of a plan, by its number.
use Rattle.std.proofs.Common.{◌≡◌, ℕ, ◌<◌, true, List, length, map, get_or, Option, Some, None, Ok, Err, Result, refl}
use Rattle.std.proofs.Common.{sym, ap, subst, ◌∙◌}
use Rattle.std.specs.Prelude.{slice_get, option_map, IfOk}
use Rattle.std.proofs.lemmas.Option.{slice_get-map}
use Rattle.std.specs.declared.alloc.AllocError.{AllocError}
use Rattle.arm_value.specs.Json.{null}
use Rattle.arm_value.specs.View.{json}
use Rattle.arm_value.specs.declared.value.Value.{Value}
use Rattle.arm_ids.specs.Held.{HeldResource}
use Rattle.arm_ids.specs.declared.id.ResourceId.{ResourceId}
use Rattle.deploy_cells.specs.Cells.{Position}
use Rattle.plan_cells.specs.Known as knowledge
use Rattle.plan_cells.specs.Tasks as tasks
use Rattle.plan_cells.specs.Tasks.{enter, leave, delete}
use Rattle.plan_table.specs.Whole.{scopes_of}
use Rattle.task_aims.specs.Plan.{Plan}
use Rattle.task_aims.specs.Task.{Task}
use Rattle.task_aims.specs.Task.TheVariants.{Leave, Delete}
use Rattle.task_aims.specs.Plans.{task_in}
use Rattle.task_aims.specs.Numbers.{IsOfTable}
use Rattle.task_aims.proofs.NumberLemmas.{got}
use Rattle.task_aims.proofs.CheckLemmas.{each_at}
use Rattle.task_aims.specs.Numbered.{TaskNumbers as Numbers}
use Rattle.deploy_histories.specs.Planned.{Planned}
use Rattle.deploy_histories.specs.Events.{Event, Progress, progress, IsDone, is_waiting}
use Rattle.deploy_histories.specs.Values.{task_values, body_of}
use Rattle.deploy_histories.specs.Readiness.{first_fault, needs_first, readiness, ready}
use Rattle.task_aims.specs.Planned.{planned_by}
use Rattle.point_values.specs.Seen.{IsSeen}
use Rattle.point_rows.specs.declared.later.Later.{Later}
use Rattle.point_rows.specs.Rows.{known_now}
use Rattle.scope_faults.specs.Entries.{AreTold}
use Rattle.scope_faults.proofs.GoesLemmas.{told_with_states}
use Rattle.task_standings.specs.declared.standing.Standing.{Standing}
use Rattle.task_standings.specs.declared.standing.Standing.TheVariants.{Ready, Waits, Stuck}
use Rattle.task_standings.specs.Standings.{AreStartNeedsDone, IsStanding, Enters, Leaves, IsScopeSeen}
use Rattle.task_standings.specs.Standings.{kind_of}
use Rattle.task_standings.specs.declared.standing.Kind.{Kind}
use Rattle.plan_standings.specs.Waits.{table_of, IsNext, IsAtPoint, HasStates}
use Rattle.plan_standings.specs.Answers.{IsUnready}
use Rattle.plan_standings.proofs.NumberedLemmas.{planned_task}
use Rattle.plan_standings.specs.Entering.{HasMore}
use Rattle.plan_standings.specs.declared.leaving.Leaving.{Leaving}
use Rattle.plan_standings.specs.declared.leaving.Leaving.TheVariants.{Told, Stands}
use Rattle.plan_standings.specs.Leaving.{IsLeaving}
use Rattle.plan_standings.specs.declared.leaving.Outputs.{Outputs}
use Rattle.plan_standings.specs.Kept.{IsNoted, IsNotedBy}

-- states that became known change nothing else
pub with_states : (g : Plan) (held : List HeldResource) (h : List Event) (l m : Later) → AreTold (table_of g) l
    → HasStates g held h l m → HasMore g held h l m
with_states g held h l m told s = record {
  fit = s.fit;
  told = told_with_states (table_of g) l m s.grows s.entries told;
  grows = s.grows;
  kept = s.kept;
}

-- ---- the task of a number

module _ (g : Plan) (held : List HeldResource) (h : List Event) (u : ℕ) (task found : Task)
    (within : u < length g.tasks.items) (is : found ≡ get_or g.tasks.items u found) (found_is : found ≡ task) where
  abbrev x : Planned
  x = planned_by g held

  pub is_here : slice_get g.tasks.items u ≡ Some task
  is_here = got g.tasks.items u found within is ∙ ap (λ y. Some y) found_is

  pub is_planned_task : slice_get x.tasks u ≡ Some (task_in (scopes_of (table_of g)) task)
  is_planned_task = planned_task (scopes_of (table_of g)) g.tasks.items u task is_here

  pub is_next : (progress h).status u ≡ is_waiting → AreStartNeedsDone x (progress h) u → IsNext g held h u task
  is_next w n = record { is_task = is_here; waits_still = w; needs_done = n }

  pub of_table : (n : Numbers) (l : Later) → IsAtPoint g held n h l → IsOfTable (table_of g) task
  of_table n l at =
      subst (IsOfTable (table_of g)) found_is
      (each_at (IsOfTable (table_of g)) g.tasks.items u found within is at.under_way.numbers.of_scopes.of_table)

  same_some : (a b : tasks.Task) → Some a ≡ Some b → a ≡ b
  same_some a b e = cc

  same_task : (a : tasks.Task) → slice_get x.tasks u ≡ Some a → task_in (scopes_of (table_of g)) task ≡ a
  same_task a e = same_some (task_in (scopes_of (table_of g)) task) a (sym is_planned_task ∙ e)

  pub never_enters : ((q : Position) → task_in (scopes_of (table_of g)) task ≡ enter q → ⊥) → (s : Standing)
      → Enters x u s → ⊥
  never_enters n (Ready v) e = n e.0 (same_task (enter e.0) e.1)
  never_enters n (Waits v) e = e
  never_enters n Stuck e = e

  pub never_leaves : ((q : Position) → task_in (scopes_of (table_of g)) task ≡ leave q → ⊥) → (s : Standing)
      → Leaves x u s → ⊥
  never_leaves n (Ready v) e = n e.0 (same_task (leave e.0) e.1)
  never_leaves n (Waits v) e = e
  never_leaves n Stuck e = e

  -- a task that enters no scope needs nothing known of one
  pub none_entered : ((q : Position) → task_in (scopes_of (table_of g)) task ≡ enter q → ⊥) → (k : knowledge.Table)
      (r : Result Standing AllocError) → IfOk r (λ s. Enters x u s → IsScopeSeen x k u)
  none_entered n k (Ok s) = λ e. absurd (never_enters n s e)
  none_entered n k (Err e) = tt

  -- a task that leaves no scope notes nothing
  pub none_left : ((q : Position) → task_in (scopes_of (table_of g)) task ≡ leave q → ⊥) → (m : Later)
      (o : Option Outputs) (r : Result Standing AllocError) → IfOk r (λ s. Leaves x u s → IsNoted g m o u)
  none_left n m o (Ok s) = λ e. absurd (never_leaves n s e)
  none_left n m o (Err e) = tt

-- a deletion is ready
pub deletion_stands : ((x : Planned) (p : Progress) (s : knowledge.Table) → IsSeen x p s → (w : ℕ) (task : tasks.Task)
    → p.status w ≡ is_waiting
    → ((j : ℕ) (other : tasks.Task) → slice_get x.tasks j ≡ Some other → needs_first x task other ≡ true
    → IsDone p j)
    → first_fault x.deployment s (task_values x.deployment task) ≡ None
    → readiness x s p.status w task ≡ ready (body_of x s task))
    → (g : Plan) (held : List HeldResource) (n : Numbers) (h : List Event) (l : Later) → IsAtPoint g held n h l
    → (u : ℕ) (k : ResourceId) → IsNext g held h u (Delete k) → (v : Value) → json v ≡ null
    → IsStanding (planned_by g held) (progress h) (known_now (table_of g) l) u (Ready v)
deletion_stands law g held n h l at u k next v e =
    let x = planned_by g held in
    let has = planned_task (scopes_of (table_of g)) g.tasks.items u (Delete k) next.is_task in
    record {
      task = delete k;
      is_task = has;
      stands_as = (
        law x (progress h) (known_now (table_of g) l) at.kept.seen u (delete k) next.waits_still
            (λ j other is needs. next.needs_done (delete k) j other has is needs) refl
            ∙ ap ready (sym e),
        tt,
      );
    }

-- ---- the leave of a scope

module _ (g : Plan) (held : List HeldResource) (h : List Event) (m : Later) (f u : ℕ) (leaving : Leaving)
    (a : IsLeaving g held h m f u leaving) where
  pub left_stands : (o : Option Outputs) (s : Standing) → IsNotedBy leaving o s
      → IsStanding (planned_by g held) (progress h) (known_now (table_of g) m) u s
  left_stands o s b = by_leaving leaving a s b
    where
      by_leaving : (z : Leaving) → IsLeaving g held h m f u z → (s : Standing) → IsNotedBy z o s
          → IsStanding (planned_by g held) (progress h) (known_now (table_of g) m) u s
      by_leaving (Told ns) a (Ready v) b = a.1 v b.1
      by_leaving (Told ns) a (Waits v) b = absurd b
      by_leaving (Told ns) a Stuck b = absurd b
      by_leaving (Stands r) a s b =
          subst (λ (z : Standing). IsStanding (planned_by g held) (progress h) (known_now (table_of g) m) u z) (sym b)
          a.1

  unready_stays : (s : Standing) → IsUnready s → Leaves (planned_by g held) u s → ⊥
  unready_stays (Ready v) n e = n
  unready_stays (Waits v) n e = e
  unready_stays Stuck n e = e

  pub left_noted : IsNext g held h u (Leave f) → (o : Option Outputs) (s : Standing) → IsNotedBy leaving o s
      → Leaves (planned_by g held) u s → IsNoted g m o u
  left_noted next o s b e = by_leaving leaving a s b e
    where
      by_leaving : (z : Leaving) → IsLeaving g held h m f u z → (s : Standing) → IsNotedBy z o s
          → Leaves (planned_by g held) u s → IsNoted g m o u
      by_leaving (Told ns) a (Ready v) b e = record {
        noted = record { told = ns };
        is = b.0;
        frame = f;
        is_task = next.is_task;
        are_noted = a.0;
      }
      by_leaving (Told ns) a (Waits v) b e = absurd b
      by_leaving (Told ns) a Stuck b e = absurd b
      by_leaving (Stands r) a s b e =
          absurd (unready_stays s (subst IsUnready (sym b) a.0) e)

-- ---- what the task of a number does

module _ (f : Task → tasks.Task) where
  kinds_so : (o : Option Task) → option_map kind_of (option_map f o) ≡ option_map (λ u. kind_of (f u)) o
  kinds_so None = refl
  kinds_so (Some u) = refl

  pub kind_here : (us : List Task) (n : ℕ) (k : Kind) → option_map (λ u. kind_of (f u)) (slice_get us n) ≡ Some k
      → option_map kind_of (slice_get (map f us) n) ≡ Some k
  kind_here us n k e = ap (option_map kind_of) (slice_get-map f us n) ∙ kinds_so (slice_get us n) ∙ e
