-- The task that gives what a value waits for.
use Rattle.std.proofs.Common.{◌≡◌, ℕ, ◌<◌, List, length, Some, refl, sym, subst, ◌∙◌, arith, true}
use Rattle.std.specs.Prelude.{slice_get}
use Rattle.arm_value.specs.Json.{Json}
use Rattle.arm_ids.specs.Held.{HeldResource}
use Rattle.arm_ids.specs.declared.id.ResourceId.{ResourceId}
use Rattle.reading.specs.Knowledge.{Told, waits, missing}
use Rattle.deploy_cells.specs.Cells.{Cell, state}
use Rattle.plan_cells.specs.Start.{start_world}
use Rattle.plan_cells.specs.Tasks.{leave}
use Rattle.plan_cells.specs.Reads.{is_given_by}
use Rattle.plan_filling.specs.Rows.{row_at}
use Rattle.plan_table.specs.declared.table.Table.{Table}
use Rattle.plan_table.specs.Lines.{cell_of, line_at}
use Rattle.plan_table.specs.Whole.{scopes_of, rows_in}
use Rattle.plan_table.specs.Found.{scope_at}
use Rattle.plan_table.proofs.LaidLemmas.{length_rows}
use Rattle.plan_sight.proofs.LookLemmas.{cell_of_row}
use Rattle.plan_sight.specs.declared.lack.Lack.{Lack}
use Rattle.plan_sight.specs.declared.lack.Lack.TheVariants as lack
use Rattle.task_aims.specs.Plan.{Plan}
use Rattle.task_aims.specs.Task.TheVariants.{Leave}
use Rattle.task_aims.specs.Plans.{deployment_of}
use Rattle.task_aims.specs.Numbered.{TaskNumbers as Numbers}
use Rattle.task_aims.specs.Lookups.{IsTaken}
use Rattle.task_aims.specs.Taken.{Taken}
use Rattle.task_aims.specs.Taken.TheVariants.{Undone}
use Rattle.deploy_histories.specs.Planned.{Planned}
use Rattle.deploy_histories.specs.Events.{Event, Progress, progress}
use Rattle.task_aims.specs.Planned.{planned_by}
use Rattle.point_rows.specs.declared.later.Later.{Later}
use Rattle.point_rows.specs.Rows.{known_now}
use Rattle.scope_faults.specs.Circles.{IsAwait}
use Rattle.plan_standings.specs.Waits.{table_of, line_frame, IsAtPoint, IsInSight}
use Rattle.plan_standings.specs.Needing.{IsGiver}
use Rattle.plan_standings.proofs.NumberedLemmas.{leave_task}
use Rattle.plan_standings.proofs.WaitLemmas.{line_giver}
use Rattle.plan_standings.proofs.AnswerLemmas.{start_of_plan}

-- ---- a state

abbrev the_waits : Cell → Told Cell Json
the_waits c = waits c

pub state_giver : (x : Planned) (p : Progress) (k : ResourceId) (l m : Later) (r : Taken) (v : ℕ) → r ≡ Undone v
    → IsTaken x p k l m r → IsGiver x p (state k) v
state_giver x p k l m r v e s =
    let u : IsTaken x p k l m (Undone v) = subst (IsTaken x p k l m) e s in
    record { is_undone = u.1.0; giver = u.1.1.0; is_task = u.1.1.1.0; gives = u.1.1.1.1 }

same_awaited : (c e : Cell) → the_waits c ≡ the_waits e → c ≡ e
same_awaited c e h = cc

pub state_is : (t : Table) (k : ResourceId) (z : Lack) (c : Cell) → z ≡ lack.State k
    → IsAwait {A = Json} t z (waits c) → state k ≡ c
state_is t k z c e w =
    sym (same_awaited c (state k) (subst (λ (y : Lack). IsAwait {A = Json} t y (waits c)) e w))

-- ---- a line

pub line_within : (t : Table) (j : ℕ) (z : Lack) → z ≡ lack.Line j → (c : Cell) × IsAwait {A = Json} t z (waits c)
    → j < length t.lines.items
line_within t j z e w =
    let h = (subst (λ (y : Lack). IsAwait {A = Json} t y (waits w.0)) e w.1).0 in
    let n = length_rows (scopes_of t) t.lines.items in omega (arith, n, h)

module _ (g : Plan) (held : List HeldResource) (n : Numbers) (h : List Event) (l : Later)
    (at : IsAtPoint g held n h l) where
  abbrev t : Table
  t = table_of g

  pub line_needs : (j v : ℕ) (z : Lack) → z ≡ lack.Line j
      → slice_get g.tasks.items v ≡ Some (Leave (line_frame t j)) → (c : Cell) → IsAwait {A = Json} t z (waits c)
      → known_now t l c ≡ missing → IsInSight (deployment_of g) (known_now t l) c
      → IsGiver (planned_by g held) (progress h) c v
  line_needs j v z e has c w gone sight =
      let a = subst (λ (y : Lack). IsAwait {A = Json} t y (waits c)) e w in
      let within = line_within t j z e (c, w) in
      let is : c ≡ cell_of (scopes_of t) (line_at t.lines.items j).spot
      = same_awaited c (row_at (rows_in t) j).cell a.1 ∙ sym (cell_of_row t j within) in
      let task = leave_task (planned_by g held) t g.tasks.items g.keys.items refl at.under_way.numbers.of_scopes
      (line_frame t j) v has in
      let r = line_giver (planned_by g held) (progress h) t l at.under_way.has_histories
      (start_of_plan g held n h l at) at.kept j within (subst (λ (b : Cell). known_now t l b ≡ missing) is gone)
      (subst (λ (b : Cell). IsInSight (deployment_of g) (known_now t l) b) is sight) v task in
      record {
        is_undone = r.0;
        giver = leave (scope_at t (line_frame t j)).position;
        is_task = task;
        gives =
            subst (λ (b : Cell). is_given_by (deployment_of g) (start_world (planned_by g held).known)
            (leave (scope_at t (line_frame t j)).position) b ≡ true) (sym is) r.1;
      }
