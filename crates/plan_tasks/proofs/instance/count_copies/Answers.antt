use Rattle.deploy_cells.specs.Cells.{count}
use Rattle.plan_table.specs.Found.{scope_at, IsLineOf}
use Rattle.plan_tasks.proofs.TableLemmas.{line_there, copies_by_line}
use Rattle.plan_tasks.proofs.instance.count_copies.Goals as goal

pub returns-in-Some : goal.returns-in-Some
returns-in-Some c =
    let t = c.args.table.now in
    copies_by_line t c.args.frame c.args.resource c.in-Some.line c.copies_by.result c.index.result.now c.requires.table
    (line_there (IsLineOf t c.args.frame (count
    (scope_at t c.args.frame).position c.args.resource)) c.in_ok-line.field-0
    c.in-Some.line c.in-Some.is c.in_ok-line.ensures.found)
    c.index.ensures c.copies_by.ensures
