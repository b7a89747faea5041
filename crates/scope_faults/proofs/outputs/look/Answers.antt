use Rattle.scope_faults.specs.Faults.{output_told}
use Rattle.scope_faults.proofs.OutputLemmas.{told_look}
use Rattle.scope_faults.proofs.outputs.look.Goals as goal

pub returns-in-Ok : goal.returns-in-Ok
returns-in-Ok c =
    told_look c.args.register.now.table c.args.later.now c.args.frame c.args.number c.in-Ok.entry c.in-Ok.ensures.told

pub returns-in-Err : goal.returns-in-Err
returns-in-Err c =
    let t = c.args.register.now.table in
    c.look_by.ensures t (output_told t c.args.later.now c.args.frame c.args.number) c.in-Err.ensures.lack
