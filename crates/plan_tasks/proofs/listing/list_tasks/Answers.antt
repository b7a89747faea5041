use Rattle.std.proofs.Common.{◌++◌, ◌∙◌, ap}
use Rattle.plan_table.specs.Found.{scope_at}
use Rattle.plan_tasks.specs.InOrder.{scope_in_order}
use Rattle.plan_tasks.specs.Start.{start_of}
use Rattle.plan_tasks.proofs.ListLemmas.{tasks_in, all_listed}
use Rattle.plan_tasks.proofs.listing.list_tasks.Goals as goal

pub returns-in-Ok-clause-tasks : goal.returns-in-Ok-clause-tasks
returns-in-Ok-clause-tasks c =
    let t = c.args.table.now in
    all_listed t c.list_scope.new.tasks.items c.requires.table
    (c.in-Ok.ensures.listed
    ∙ ap (λ ts. tasks_in t ts ++ scope_in_order (start_of t) (scope_at t 0).position (scope_at t 0).template)
    c.new-tasks.ensures.items)
