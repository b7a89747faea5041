use Rattle.plan_elements.proofs.ElementLemmas.{TasksLeft}
use Rattle.plan_elements.proofs.elements.elements_of_tasks.Given as goal

abbrev pub invariant-tasks : goal.invariant-tasks
invariant-tasks l = TasksLeft l.register.table l.tasks l.all.items l.task-index
