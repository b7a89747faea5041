use Rattle.plan_table.specs.Lines.{line_at}
use Rattle.scope_entries.proofs.answer.entry_told.Goals as goal

pub ruled-requires-clause-ready : goal.ruled-requires-clause-ready
ruled-requires-clause-ready c = c.requires.complete.ready

pub returns-in-Ok : goal.returns-in-Ok
returns-in-Ok c = c.ruled.ensures c.args.later.now c.in-Ok.ensures

pub returns-in-Err : goal.returns-in-Err
returns-in-Err c =
    let t = c.args.register.now.table in
    c.lacking.ensures t c.args.later.now (line_at t.lines.items c.args.at).spot c.in-Err.ensures
