use Rattle.std.proofs.Common.{◌≡◌, ℕ, Some, sym, subst, ◌∙◌}
use Rattle.std.specs.Prelude.{IfOk}
use Rattle.deploy_cells.specs.Cells.{count, name, step}
use Rattle.plan_table.specs.Found.{scope_at, IsLineOf, state_at, Counts}
use Rattle.plan_tasks.proofs.TableLemmas.{line_there, no_line, instance_listed}
use Rattle.task_aims.specs.Aims.{target_by}
use Rattle.task_aims.proofs.AimLemmas.{said_here}
use Rattle.task_aims.proofs.aims.put_aim.Goals as goal

pub unreachable-requires : goal.unreachable-requires
unreachable-requires c =
    let t = c.args.table.now in
    instance_listed t c.args.frame c.args.resource c.args.copy c.requires.table c.requires.instance
    (no_line ((j : ℕ) → IsLineOf t c.args.frame (count (scope_at t c.args.frame).position c.args.resource) j
    → Counts c.args.copy (state_at t j) → ⊥) c.in_ok-line.field-0 c.in-None.is c.in_ok-line.ensures.missing)

pub put_by_line-requires : goal.put_by_line-requires
put_by_line-requires c =
    let t = c.args.table.now in (
      c.requires.named.0,
      sym (said_here t c.args.frame c.args.resource c.args.copy c.in-Some.line c.index.result.now
          c.index-in-Some.result.now c.index-in-Some-2.result.now c.requires.table c.requires.instance
          (line_there (IsLineOf t c.args.frame (name (scope_at t c.args.frame).position
          (step c.args.resource c.args.copy))) c.in_ok-line.field-0 c.in-Some.line c.in-Some.is
          c.in_ok-line.ensures.found) c.index.ensures c.index-in-Some.ensures c.index-in-Some-2.ensures)
          ∙ c.requires.named.1,
    )

pub returns : goal.returns
returns c =
    let t = c.args.table.now in
    subst (λ o. IfOk c.put_by_line.result (λ a. o ≡ Some (target_by a)))
    (sym (said_here t c.args.frame c.args.resource c.args.copy c.in-Some.line c.index.result.now
    c.index-in-Some.result.now c.index-in-Some-2.result.now c.requires.table c.requires.instance
    (line_there (IsLineOf t c.args.frame (name (scope_at t c.args.frame).position
    (step c.args.resource c.args.copy))) c.in_ok-line.field-0 c.in-Some.line c.in-Some.is
    c.in_ok-line.ensures.found) c.index.ensures c.index-in-Some.ensures c.index-in-Some-2.ensures))
    c.put_by_line.ensures
