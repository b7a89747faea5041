use Rattle.task_standings.proofs.Lasting.{needs_later, stuck_later}
use Rattle.task_standings.proofs.laws.standings_last.Goals as goal

pub returns-clause-needs : goal.returns-clause-needs
returns-clause-needs c = needs_later

pub returns-clause-stuck : goal.returns-clause-stuck
returns-clause-stuck c = stuck_later
