use Rattle.task_standings.proofs.Lasting.{needed_by_all}
use Rattle.task_standings.proofs.laws.needed_by_all.Goals as goal

pub returns : goal.returns
returns c = needed_by_all
