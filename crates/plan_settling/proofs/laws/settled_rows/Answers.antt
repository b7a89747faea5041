use Rattle.plan_settling.proofs.RowLemmas.{settled_answered}
use Rattle.plan_settling.proofs.laws.settled_rows.Goals as goal

pub returns : goal.returns
returns c = settled_answered
