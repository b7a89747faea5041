use Rattle.task_standings.proofs.Lasting.{scopes_stay}
use Rattle.task_standings.proofs.laws.scopes_stay.Goals as goal

pub returns : goal.returns
returns c = scopes_stay
