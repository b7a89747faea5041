use Rattle.arm_plan.proofs.planning.plan.Goals as goal

pub returns-in-Err-clause-fault : goal.returns-in-Err-clause-fault
returns-in-Err-clause-fault c =
    c.halt_fault.ensures _ c.args.mode c.args.held.now c.in-Err.ensures.halted
