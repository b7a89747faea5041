use Rattle.task_standings.proofs.Final.{outputs_are_so}
use Rattle.task_standings.proofs.laws.outputs_are_so.Goals as goal

pub returns : goal.returns
returns c = outputs_are_so
