use Rattle.std.proofs.Common.{sym, ap, ◌∙◌}
use Rattle.deploy_histories.specs.Readiness.{needs_first}
use Rattle.given_plans.specs.Given.{planned_of, task_of}
use Rattle.given_plans.specs.declared.plan.GivenTask.{GivenTask}
use Rattle.given_plans.proofs.plan.GivenPlan.needs.Goals as goal

pub returns-in-Enter : goal.returns-in-Enter
returns-in-Enter c =
    c.entry_needs.ensures
    ∙ ap (λ (t : GivenTask). needs_first (planned_of c.args.self.now) (task_of t) (task_of c.args.second))
    (sym c.in-Enter.is)

pub returns-in-Put : goal.returns-in-Put
returns-in-Put c =
    c.put_needs.ensures
    ∙ ap (λ (t : GivenTask). needs_first (planned_of c.args.self.now) (task_of t) (task_of c.args.second))
    (sym c.in-Put.is)

pub returns-in-Leave : goal.returns-in-Leave
returns-in-Leave c =
    c.leave_needs.ensures
    ∙ ap (λ (t : GivenTask). needs_first (planned_of c.args.self.now) (task_of t) (task_of c.args.second))
    (sym c.in-Leave.is)
