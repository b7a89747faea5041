use Rattle.std.proofs.Common.{ap, map, ◌∙◌}
use Rattle.plan_cells.specs.Tasks.{delete, deletes_in}
use Rattle.plan_assembly.proofs.WorkLemmas.{planned}
use Rattle.plan_assembly.proofs.assembly.parts_with.Goals as goal

pub returns-in-Ok-tasks_with : goal.returns-in-Ok-tasks_with
returns-in-Ok-tasks_with c =
    planned c.args.table.now c.args.mode c.args.held.now c.args.tasks.now c.args.keys.items c.as_slice-in-Ok.result.now
    c.in-Ok-tasks_with.tasks.items c.in-Ok-tasks_with.needs.items c.requires.listed c.requires.keys
    (ap (λ ks. map delete ks) c.as_slice-in-Ok.ensures.value ∙ c.in-Ok.ensures
    ∙ ap (λ ks. deletes_in c.args.mode c.args.table.now.place.now ks c.args.held.now) c.as_slice.ensures.value)
    c.in-Ok-tasks_with.ensures.tasks c.in-Ok-tasks_with.ensures.of_table c.in-Ok-tasks_with.ensures.needs
    c.in-Ok-tasks_with.ensures.order c.in-Ok-tasks_with.ensures.within
