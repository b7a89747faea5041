use Rattle.scope_outputs.specs.Entries.{line_cell}
use Rattle.scope_faults.proofs.EntryLemmas.{lacks_none}
use Rattle.scope_faults.proofs.entries.broken_at.Goals as goal

pub returns-in-Ok : goal.returns-in-Ok
returns-in-Ok c = c.value_fault.ensures c.args.later.now c.requires.none c.in-Ok.ensures

pub returns-in-Err : goal.returns-in-Err
returns-in-Err c =
    let t = c.args.register.now.table in
    lacks_none t c.args.later.now (line_cell t c.args.at) c.in-Err.lack c.no_fault.result c.no_fault.ensures.none
    c.no_fault.ensures.memory c.in-Err.ensures
