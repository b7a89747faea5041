use Rattle.std.proofs.Common.{sym, ap, ◌∙◌}
use Rattle.deploy_histories.specs.Readiness.{needs_first}
use Rattle.plan_cells.specs.Tasks.{leave}
use Rattle.given_plans.specs.Given.{planned_of, task_of, at_depth}
use Rattle.given_plans.specs.declared.plan.GivenTask.{GivenTask}
use Rattle.given_plans.proofs.NeedLemmas.{leave_enter, leave_put, leave_leave}
use Rattle.given_plans.proofs.plan.GivenPlan.leave_needs.Goals as goal

pub returns-in-Enter : goal.returns-in-Enter
returns-in-Enter c =
    c.is_near.ensures ∙ sym (leave_enter c.args.self.now c.args.depth c.in-Enter.entered)
    ∙ ap (λ (t : GivenTask). needs_first (planned_of c.args.self.now) (leave (at_depth c.args.depth)) (task_of t))
    (sym c.in-Enter.is)

pub returns-in-Put : goal.returns-in-Put
returns-in-Put c =
    sym (leave_put c.args.self.now c.args.depth c.in-Put.field-0)
    ∙ ap (λ (t : GivenTask). needs_first (planned_of c.args.self.now) (leave (at_depth c.args.depth)) (task_of t))
    (sym c.in-Put.is)

pub returns-in-Leave : goal.returns-in-Leave
returns-in-Leave c =
    c.is_after.ensures ∙ sym (leave_leave c.args.self.now c.args.depth c.in-Leave.inner)
    ∙ ap (λ (t : GivenTask). needs_first (planned_of c.args.self.now) (leave (at_depth c.args.depth)) (task_of t))
    (sym c.in-Leave.is)
