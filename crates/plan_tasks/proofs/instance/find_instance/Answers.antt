use Rattle.std.proofs.Common.{◌∙◌, ℕ, sym}
use Rattle.deploy_cells.specs.Cells.{count, included, step}
use Rattle.plan_table.specs.Found.{scope_at, IsLineOf, state_at, Counts}
use Rattle.plan_tasks.proofs.TableLemmas.{line_there, no_line, instance_listed, found_by_line, left_by_line}
use Rattle.plan_tasks.proofs.instance.find_instance.Goals as goal

pub unreachable-requires : goal.unreachable-requires
unreachable-requires c =
    let t = c.args.table.now in
    instance_listed t c.args.frame c.args.resource c.args.copy c.requires.table c.requires.instance
    (no_line ((j : ℕ) → IsLineOf t c.args.frame (count (scope_at t c.args.frame).position c.args.resource) j
    → Counts c.args.copy (state_at t j) → ⊥) c.in_ok-line.field-0 c.in-None.is c.in_ok-line.ensures.missing)

pub returns-then-is_true_by : goal.returns-then-is_true_by
returns-then-is_true_by c = λ x e.
    let t = c.args.table.now in
    found_by_line t c.args.frame c.args.resource c.args.copy c.in-Some.line x c.index.result.now
    c.index-then-is_true_by.result.now c.included_as.result c.requires.table c.requires.instance
    (line_there (IsLineOf t c.args.frame (included (scope_at t c.args.frame).position
    (step c.args.resource c.args.copy))) c.in_ok-line.field-0 c.in-Some.line c.in-Some.is c.in_ok-line.ensures.found)
    c.index.ensures c.index-then-is_true_by.ensures (sym c.if-is_true_by.true ∙ c.is_true_by.ensures) e
    (c.included_as.ensures x e)

pub returns-else-is_true_by : goal.returns-else-is_true_by
returns-else-is_true_by c = λ x e.
    let t = c.args.table.now in
    left_by_line t c.args.frame c.args.resource c.args.copy c.in-Some.line c.index.result.now c.requires.table
    (line_there (IsLineOf t c.args.frame (included (scope_at t c.args.frame).position
    (step c.args.resource c.args.copy))) c.in_ok-line.field-0 c.in-Some.line c.in-Some.is c.in_ok-line.ensures.found)
    c.index.ensures (sym c.if-is_true_by.false ∙ c.is_true_by.ensures)
