use Rattle.std.proofs.Common.{sym, ap, ◌∙◌}
use Rattle.deploy_histories.specs.Readiness.{needs_first}
use Rattle.plan_cells.specs.Tasks.{enter}
use Rattle.given_plans.specs.Given.{planned_of, task_of, at_depth}
use Rattle.given_plans.specs.declared.plan.GivenTask.{GivenTask}
use Rattle.given_plans.proofs.NeedLemmas.{enter_enter, enter_put, enter_leave}
use Rattle.given_plans.proofs.plan.GivenPlan.entry_needs.Goals as goal

pub returns-in-Enter : goal.returns-in-Enter
returns-in-Enter c =
    c.is_after.ensures ∙ sym (enter_enter c.args.self.now c.args.depth c.in-Enter.around)
    ∙ ap (λ (t : GivenTask). needs_first (planned_of c.args.self.now) (enter (at_depth c.args.depth)) (task_of t))
    (sym c.in-Enter.is)

pub returns-in-Put : goal.returns-in-Put
returns-in-Put c =
    sym (enter_put c.args.self.now c.args.depth c.in-Put.field-0)
    ∙ ap (λ (t : GivenTask). needs_first (planned_of c.args.self.now) (enter (at_depth c.args.depth)) (task_of t))
    (sym c.in-Put.is)

pub returns-in-Leave : goal.returns-in-Leave
returns-in-Leave c =
    sym (enter_leave c.args.self.now c.args.depth c.in-Leave.field-0)
    ∙ ap (λ (t : GivenTask). needs_first (planned_of c.args.self.now) (enter (at_depth c.args.depth)) (task_of t))
    (sym c.in-Leave.is)
