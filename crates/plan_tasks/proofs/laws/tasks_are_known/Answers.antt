use Rattle.plan_tasks.proofs.ToldLemmas.{tasks_told}
use Rattle.plan_tasks.proofs.laws.tasks_are_known.Goals as goal

pub returns : goal.returns
returns c = tasks_told
