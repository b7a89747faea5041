use Rattle.std.proofs.Common.{sym, ap, ◌∙◌}
use Rattle.deploy_histories.specs.Readiness.{needs_first}
use Rattle.deploy_cells.specs.Cells.{step}
use Rattle.plan_cells.specs.Tasks.{put}
use Rattle.std.proofs.Common.{[]}
use Rattle.given_plans.specs.Given.{planned_of, task_of}
use Rattle.given_plans.specs.declared.plan.GivenTask.{GivenTask}
use Rattle.given_plans.proofs.NeedLemmas.{put_enter, put_put, put_leave}
use Rattle.given_plans.proofs.plan.GivenPlan.put_needs.Goals as goal

pub returns-in-Enter : goal.returns-in-Enter
returns-in-Enter c =
    sym (put_enter c.args.self.now c.args.index c.in-Enter.depth)
    ∙ ap (λ (t : GivenTask). needs_first (planned_of c.args.self.now) (put [] (step 0 c.args.index)) (task_of t))
    (sym c.in-Enter.is)

pub returns-in-Put : goal.returns-in-Put
returns-in-Put c =
    c.is_batch_after.ensures ∙ sym (put_put c.args.self.now c.args.index c.in-Put.second)
    ∙ ap (λ (t : GivenTask). needs_first (planned_of c.args.self.now) (put [] (step 0 c.args.index)) (task_of t))
    (sym c.in-Put.is)

pub returns-in-Leave : goal.returns-in-Leave
returns-in-Leave c =
    sym (put_leave c.args.self.now c.args.index c.in-Leave.field-0)
    ∙ ap (λ (t : GivenTask). needs_first (planned_of c.args.self.now) (put [] (step 0 c.args.index)) (task_of t))
    (sym c.in-Leave.is)
