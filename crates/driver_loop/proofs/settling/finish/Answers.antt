use Rattle.std.proofs.Common.{ap, ◌∙◌, sym}
use Rattle.driver_loop.specs.Actions.{fault_of}
use Rattle.driver_loop.proofs.settling.finish.Goals as goal

pub returns-in-Ok-clause-fault : goal.returns-in-Ok-clause-fault
returns-in-Ok-clause-fault g c =
    let d = c.args.done in
    c.answer_or_back.ensures.fault d.worker ∙ ap (λ x. fault_of d.worker x c.args.refused) (sym c.in-Ok.is)
