use Rattle.crew_times.proofs.RowLemmas.{no_end}
use Rattle.crew_times.proofs.row.RowDealer.next.Goals as goal

pub returns-then-self-len-clause-end : goal.returns-then-self-len-clause-end
returns-then-self-len-clause-end c = no_end _ c.begin.result c.begin.ensures.begun
