use Rattle.std.proofs.Common.{sym, subst, ◌∙◌, ◌+◌, List}
use Rattle.plan_cells.specs.Plan.{Need}
use Rattle.given_plans.specs.Given.{planned_of, task_of}
use Rattle.given_plans.specs.Listing.{AreListed}
use Rattle.given_plans.proofs.ListLemmas.{pair_listed, pair_skipped}
use Rattle.given_plans.proofs.StandLemmas.{task_is}
use Rattle.given_plans.proofs.listing.list_pair.Goals as goal

pub returns-then-not-needs : goal.returns-then-not-needs
returns-then-not-needs c =
    pair_skipped (planned_of c.args.plan.now) c.args.first c.args.second (task_of c.task-task.result)
    (task_of c.task-other.result) (task_is c.args.plan.now c.args.first c.task-task.result c.task-task.ensures)
    (task_is c.args.plan.now c.args.second c.task-other.result c.task-other.ensures) c.args.needs.now.items
    c.requires.listed (sym c.needs.ensures ∙ c.if-not-needs.true)

pub returns : goal.returns
returns c =
    subst (λ (ns : List Need). AreListed (planned_of c.args.plan.now) c.args.first (c.args.second + 1) ns)
    (sym c.in_ok-push.ensures.items)
    (pair_listed (planned_of c.args.plan.now) c.args.first c.args.second (task_of c.task-task.result)
    (task_of c.task-other.result) (task_is c.args.plan.now c.args.first c.task-task.result c.task-task.ensures)
    (task_is c.args.plan.now c.args.second c.task-other.result c.task-other.ensures) c.args.needs.now.items
    c.requires.listed (sym c.needs.ensures ∙ c.if-not-needs.false))
