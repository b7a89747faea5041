use Rattle.deploy_cells.specs.Cells.{output}
use Rattle.scope_outputs.specs.Outputs.{position_of}
use Rattle.scope_faults.specs.Faults.{output_at}
use Rattle.scope_faults.proofs.EntryLemmas.{lacks_none}
use Rattle.scope_faults.proofs.OutputLemmas.{wrong_type}
use Rattle.scope_faults.proofs.outputs.wrong_type.Goals as goal

pub returns-in-Err : goal.returns-in-Err
returns-in-Err c =
    let t = c.args.register.now.table in
    lacks_none t c.args.later.now
    (output (position_of t c.args.frame) (output_at t c.args.frame c.args.number)) c.in-Err.lack c.no_fault.result
    c.no_fault.ensures.none c.no_fault.ensures.memory c.in-Err.ensures

pub returns-in_ok-name-in-Ok : goal.returns-in_ok-name-in-Ok
returns-in_ok-name-in-Ok c =
    wrong_type c.args.register.now.table c.args.later.now c.args.frame c.args.number c.requires.complete.ready
    c.requires.there c.requires.number c.requires.none c.output_at.result.now c.output_at.ensures c.requires.condition
    c.in-Ok.value c.in-Ok.ensures c.in_ok-name-in-Ok.name c.in_ok-name-in-Ok.ensures
