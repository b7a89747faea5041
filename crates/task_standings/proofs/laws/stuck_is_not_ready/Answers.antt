use Rattle.task_standings.proofs.Lasting.{stuck_is_not_ready}
use Rattle.task_standings.proofs.laws.stuck_is_not_ready.Goals as goal

pub returns : goal.returns
returns c = stuck_is_not_ready
