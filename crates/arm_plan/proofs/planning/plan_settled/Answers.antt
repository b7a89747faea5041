use Rattle.plan_table.specs.Whole.{whole_of}
use Rattle.plan_faults.specs.Faults.{IsFault}
use Rattle.arm_plan.proofs.TaskLemmas.{failed_by}
use Rattle.arm_plan.proofs.planning.plan_settled.Goals as goal

pub returns-in-Err-clause-fault : goal.returns-in-Err-clause-fault
returns-in-Err-clause-fault c =
    failed_by (IsFault (whole_of c.args.start.register.table) c.args.mode c.args.held.now) c.failed.result _
    c.failed.ensures (c.in-Err.ensures.fault c.args.mode c.args.held.now)
