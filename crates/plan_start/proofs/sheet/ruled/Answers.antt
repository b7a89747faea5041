use Rattle.plan_table.specs.Lines.{line_at}
use Rattle.plan_start.proofs.sheet.ruled.Goals as goal

pub meets_rule-requires-clause-laid : goal.meets_rule-requires-clause-laid
meets_rule-requires-clause-laid c = c.requires.ready.laid

pub meets_rule-requires-clause-names_differ : goal.meets_rule-requires-clause-names_differ
meets_rule-requires-clause-names_differ c = c.requires.ready.sound.names_differ

pub returns-in-Ok : goal.returns-in-Ok
returns-in-Ok c =
    c.answer_by.ensures c.args.table.now (line_at c.args.table.now.lines.items c.args.at).spot c.in-Ok.ensures
    c.requires.told
