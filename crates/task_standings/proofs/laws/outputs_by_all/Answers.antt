use Rattle.task_standings.proofs.Final.{outputs_by_all}
use Rattle.task_standings.proofs.laws.outputs_by_all.Goals as goal

pub returns : goal.returns
returns c = outputs_by_all
