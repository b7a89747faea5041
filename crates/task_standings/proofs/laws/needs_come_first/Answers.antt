use Rattle.task_standings.proofs.Lasting.{needs_come_first}
use Rattle.task_standings.proofs.laws.needs_come_first.Goals as goal

pub returns : goal.returns
returns c = needs_come_first
