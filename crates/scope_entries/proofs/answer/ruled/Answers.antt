use Rattle.plan_table.specs.Lines.{line_at}
use Rattle.scope_entries.proofs.answer.ruled.Goals as goal

pub meets_rule-requires-clause-laid : goal.meets_rule-requires-clause-laid
meets_rule-requires-clause-laid c = c.requires.ready.laid

pub meets_rule-requires-clause-names_differ : goal.meets_rule-requires-clause-names_differ
meets_rule-requires-clause-names_differ c = c.requires.ready.sound.names_differ

pub returns-in-Ok : goal.returns-in-Ok
returns-in-Ok c =
    λ l h. c.answer_by.ensures c.args.table.now l (line_at c.args.table.now.lines.items c.args.at).spot
    c.in-Ok.ensures h
