use Rattle.plan_table.specs.Lines.{line_at}
use Rattle.scope_outputs.proofs.OwnLemmas.{own_entry}
use Rattle.scope_faults.proofs.EntryLemmas.{found_own, found_none}
use Rattle.scope_faults.proofs.entries.first_fault.Goals as goal

pub fault_at-requires-clause-listed : goal.fault_at-requires-clause-listed
fault_at-requires-clause-listed c =
    (found_own c.args.register.now.table c.args.later.now c.args.frame c.as_slice.result.now c.in_ok-lines.lines.items
    c.as_slice.ensures.value c.in_ok-lines.ensures c.in_ok-at.field-0 c.in_ok-at.ensures c.in-Some.at
    c.in-Some.is).listed

pub fault_at-requires-clause-entry : goal.fault_at-requires-clause-entry
fault_at-requires-clause-entry c =
    own_entry c.args.frame (line_at c.args.register.now.table.lines.items c.in-Some.at).spot
    (found_own c.args.register.now.table c.args.later.now c.args.frame c.as_slice.result.now c.in_ok-lines.lines.items
    c.as_slice.ensures.value c.in_ok-lines.ensures c.in_ok-at.field-0 c.in_ok-at.ensures c.in-Some.at
    c.in-Some.is).is_own

pub fault_at-requires-clause-none : goal.fault_at-requires-clause-none
fault_at-requires-clause-none c =
    found_none c.args.register.now.table c.args.later.now c.args.frame c.as_slice.result.now c.in_ok-lines.lines.items
    c.as_slice.ensures.value c.in_ok-lines.ensures c.in_ok-at.field-0 c.in_ok-at.ensures c.in-Some.at c.in-Some.is
