use Rattle.scope_faults.proofs.OutputLemmas.{condition_known, condition_unknown}
use Rattle.scope_faults.proofs.outputs.broken_at.Goals as goal

pub wrong_type-requires-clause-condition : goal.wrong_type-requires-clause-condition
wrong_type-requires-clause-condition c = (c.in-Ok.field-0, c.in-Ok.ensures)

pub returns-in-Ok : goal.returns-in-Ok
returns-in-Ok c =
    condition_known c.args.register.now.table c.args.later.now c.args.frame c.args.number c.requires.complete.ready
    c.requires.there c.requires.number c.requires.none (c.in-Ok.field-0, c.in-Ok.ensures) c.wrong_type.result
    c.wrong_type.ensures

pub returns-in-Err : goal.returns-in-Err
returns-in-Err c =
    condition_unknown c.args.register.now.table c.args.later.now c.args.frame c.args.number c.requires.complete.ready
    c.requires.there c.requires.number c.requires.none c.in-Err.lack c.in-Err.ensures c.no_fault.result
    c.no_fault.ensures.none c.no_fault.ensures.memory
