use Rattle.plan_cells.proofs.TaskLemmas.{all_tasks}
use Rattle.plan_cells.proofs.laws.tasks_one_by_one.Goals as goal

pub returns : goal.returns
returns c = λ d held w h. all_tasks d w h.is_world
