use Rattle.plan_table.specs.Lines.{line_at}
use Rattle.scope_outputs.specs.Entries.{line_cell}
use Rattle.scope_outputs.proofs.OwnLemmas.{own_entry}
use Rattle.scope_faults.proofs.entries.has_value.Goals as goal

pub entry_told-requires-clause-entry : goal.entry_told-requires-clause-entry
entry_told-requires-clause-entry c =
    own_entry c.args.frame (line_at c.args.register.now.table.lines.items c.args.at).spot c.requires.own.is_own

pub returns-in-Ok : goal.returns-in-Ok
returns-in-Ok c =
    let t = c.args.register.now.table in
    c.is_value.ensures t c.args.later.now (line_cell t c.args.at) c.in-Ok.ensures
