use Rattle.plan_elements.proofs.ElementLemmas.{tasks_begin, tasks_end}
use Rattle.plan_elements.proofs.elements.elements_of_tasks.Goals as goal

pub tasks-init : goal.tasks-init
tasks-init c =
    tasks_begin c.args.register.now.table c.args.tasks.now c.new-all.result.items c.new-all.ensures.items

pub returns-clause-read : goal.returns-clause-read
returns-clause-read c =
    tasks_end c.args.register.now.table c.args.tasks.now c.tasks.all.items c.tasks.task-index c.tasks-test.false
    c.tasks.invariant
