use Rattle.plan_standings.specs.Waits.{table_of}
use Rattle.plan_standings.proofs.NumberedLemmas.{never_none, leaver_at}
use Rattle.plan_standings.proofs.answering.leaver_of_line.Goals as goal

pub unreachable-requires : goal.unreachable-requires
unreachable-requires c =
    let g = c.args.plan.now in
    never_none (table_of g) g.tasks.items g.keys.items c.requires.numbers.of_scopes c.requires.table c.args.line
    c.requires.listed c.index.result.now c.index.ensures c.scope_of-frame.result c.scope_of-frame.ensures
    c.in_ok-task.field-0 (c.in_ok-task.ensures (table_of g) g.tasks.items g.keys.items c.requires.numbers) c.in-None.is

pub returns : goal.returns
returns c =
    let g = c.args.plan.now in
    leaver_at (table_of g) g.tasks.items g.keys.items c.requires.numbers.of_scopes c.requires.table c.args.line
    c.requires.listed c.index.result.now c.index.ensures c.scope_of-frame.result c.scope_of-frame.ensures
    c.in_ok-task.field-0 c.in-Some.task
    (c.in_ok-task.ensures (table_of g) g.tasks.items g.keys.items c.requires.numbers) c.in-Some.is
