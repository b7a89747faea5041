use Rattle.plan_table.specs.Whole.{scopes_of}
use Rattle.plan_assembly.proofs.assembly.tasks_with.Goals as goal

pub returns-in-Ok-clause-tasks : goal.returns-in-Ok-clause-tasks
returns-in-Ok-clause-tasks c = c.in_ok-all.ensures.listed (scopes_of c.args.table.now)

pub returns-in-Ok-clause-of_table : goal.returns-in-Ok-clause-of_table
returns-in-Ok-clause-of_table c = c.in_ok-all.ensures.there c.args.table.now c.requires.tasks
