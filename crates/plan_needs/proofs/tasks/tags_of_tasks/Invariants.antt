use Rattle.std.proofs.Common.{◌≡◌, ◌++◌, drop}
use Rattle.tag_needs.specs.Tags.{tags_in}
use Rattle.plan_needs.specs.Lists.{tags_of_tasks}
use Rattle.plan_needs.proofs.tasks.tags_of_tasks.Given as goal

abbrev pub invariant-tasks : goal.invariant-tasks
invariant-tasks l = tags_in l.all.items ++ tags_of_tasks l.table (drop l.task-index l.tasks)
    ≡ tags_of_tasks l.table l.tasks
