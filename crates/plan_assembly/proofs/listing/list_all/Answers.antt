use Rattle.std.proofs.Common.{ap, sym, subst, map, ◌++◌, ◌∙◌}
use Rattle.reading.specs.World.{Each}
use Rattle.plan_cells.specs.Tasks.{delete}
use Rattle.plan_tasks.specs.Start.{task_of}
use Rattle.plan_assembly.specs.Plans.{task_in, IsTaskIn}
use Rattle.plan_assembly.proofs.listing.list_all.Goals as goal

pub returns-clause-listed : goal.returns-clause-listed
returns-clause-listed c = λ os.
    c.in_ok-push_deletes.ensures.listed os
    ∙ ap (λ xs. xs ++ map delete c.args.deletes.now) (c.in_ok-push_tasks.ensures.listed os
    ∙ ap (λ xs. map (task_in os) xs ++ map (task_of os) c.args.tasks.now) c.new-all.ensures.items)

pub returns-clause-there : goal.returns-clause-there
returns-clause-there c = λ t h.
    c.in_ok-push_deletes.ensures.there t
    (c.in_ok-push_tasks.ensures.there t h (subst (λ us. Each (IsTaskIn t) us) (sym c.new-all.ensures.items) tt))
