use Rattle.std.proofs.Common.{◌∙◌, map, ap, sym}
use Rattle.arm_value.specs.View.{json}
use Rattle.plan_needs.specs.Lists.{asks_of_task}
use Rattle.plan_needs.proofs.tasks.task_asks.Goals as goal
use Rattle.foundation.proofs.Options.{if_ok}

pub returns-in-Leave : goal.returns-in-Leave
returns-in-Leave c =
    if_ok _ _ c.leave_asks.result c.leave_asks.ensures (λ v e.
    e (map json c.args.values.now)
    ∙ ap (λ u. asks_of_task c.args.table.now u (map json c.args.values.now)) (sym c.in-Leave.is))
