-- What is answered of a task of which a value lacks something.
use Rattle.std.proofs.Common.{◌≡◌, ℕ, ◌<◌, List, length, Option, Some, Result, Ok, Err, refl, sym, ap, subst, ◌∙◌}
use Rattle.std.specs.Prelude.{slice_get, IfOk}
use Rattle.arm_ids.specs.Held.{HeldResource}
use Rattle.reading.specs.Knowledge.{waits}
use Rattle.plan_cells.specs.Tasks.{Task}
use Rattle.plan_filling.specs.Rows.{row_at}
use Rattle.plan_table.specs.declared.table.Table.{Table}
use Rattle.plan_table.specs.Whole.{scopes_of, rows_in}
use Rattle.plan_table.specs.Lines.{line_at, cell_of}
use Rattle.plan_sight.specs.declared.lack.Lack.TheVariants as lack
use Rattle.plan_sight.proofs.LookLemmas.{cell_of_row}
use Rattle.task_aims.specs.Plan.{Plan}
use Rattle.task_aims.specs.Task.TheVariants.{Leave}
use Rattle.task_aims.specs.Numbered.{TaskNumbers as Numbers}
use Rattle.deploy_histories.specs.Events.{Event, progress}
use Rattle.task_aims.specs.Planned.{planned_by}
use Rattle.point_rows.specs.declared.later.Later.{Later}
use Rattle.point_rows.specs.Rows.{known_now, told_now}
use Rattle.task_standings.specs.Standings.{StandsAs, IsNone}
use Rattle.task_standings.specs.declared.standing.Standing.{Standing}
use Rattle.task_standings.specs.declared.standing.Standing.TheVariants.{Waits, Stuck}
use Rattle.plan_standings.specs.Waits.{table_of, line_frame, IsStartOf, IsAtPoint}
use Rattle.plan_standings.specs.Answers.{IsLacking}
use Rattle.plan_standings.proofs.NumberedLemmas.{leave_task}
use Rattle.plan_standings.proofs.WaitLemmas.{line_stands}

module _ (g : Plan) (held : List HeldResource) (n : Numbers) (h : List Event) (l : Later)
    (at : IsAtPoint g held n h l) where
  abbrev t : Table
  t = table_of g

  pub start_of_plan : IsStartOf (planned_by g held) t
  start_of_plan = record {
    deployment = sym at.under_way.is_planned.whole;
    known = refl;
    table = at.under_way.is_planned.table;
  }

  module _ (u : ℕ) (task : Task) where
    pub stuck_stands : IsLacking g held h l task lack.NoValue
        → StandsAs (planned_by g held) (progress h) (known_now t l) u task Stuck
    stuck_stands b = record {
      lacking = b.lacking;
      is_value = b.is_value;
      is_none = subst (λ z. IsNone (planned_by g held) (progress h) z) (sym b.lacks) tt;
    }

    pub leave_stands : (j v : ℕ) → j < length t.lines.items → slice_get g.tasks.items v ≡ Some (Leave (line_frame t j))
        → IsLacking g held h l task (lack.Line j)
        → StandsAs (planned_by g held) (progress h) (known_now t l) u task (Waits v)
    leave_stands j v listed e b =
        let cell_is : cell_of (scopes_of t) (line_at t.lines.items j).spot ≡ (row_at (rows_in t) j).cell
        = cell_of_row t j listed in
        let awaited : told_now t l b.lacking.reading ≡ waits (cell_of (scopes_of t) (line_at t.lines.items j).spot)
        = b.lacks.1 ∙ ap waits (sym cell_is) in
        line_stands (planned_by g held) (progress h) t l at.under_way.has_histories start_of_plan at.kept u task
        b.lacking b.is_value j listed awaited
        (b.in_sight (cell_of (scopes_of t) (line_at t.lines.items j).spot) awaited) v
        (leave_task (planned_by g held) t g.tasks.items g.keys.items refl at.under_way.numbers.of_scopes
        (line_frame t j) v e)

-- what is never stuck is so only where anything holds
pub never_stuck : {E : Type 0} (P : Type 0) (r : Result (Option Standing) E) → IfOk r (λ o. o ≡ Some Stuck → ⊥)
    → IfOk r (λ o. o ≡ Some Stuck → P)
never_stuck P (Ok o) h = λ e. absurd (h e)
never_stuck P (Err e) h = tt
