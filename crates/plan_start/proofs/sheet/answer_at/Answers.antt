use Rattle.plan_table.specs.Lines.{line_at}
use Rattle.plan_start.proofs.AnswerLemmas.{told_answered}
use Rattle.plan_start.proofs.sheet.answer_at.Goals as goal

pub ruled-requires-clause-ready : goal.ruled-requires-clause-ready
ruled-requires-clause-ready c = c.requires.complete.ready

pub returns-in-Ok : goal.returns-in-Ok
returns-in-Ok c =
    let t = c.args.register.now.table in
    told_answered t c.args.at c.requires.complete.ready c.requires.listed c.ruled.result c.ruled.ensures

pub returns-in-Err : goal.returns-in-Err
returns-in-Err c =
    let t = c.args.register.now.table in
    told_answered t c.args.at c.requires.complete.ready c.requires.listed c.lacking.result
    (c.lacking.ensures t (line_at t.lines.items c.args.at).spot c.in-Err.ensures)
