use Rattle.plan_settling.proofs.RowLemmas.{AreSettledTo}
use Rattle.plan_settling.proofs.refused.find_refused.Given as goal

abbrev pub invariant-lines : goal.invariant-lines
invariant-lines l = AreSettledTo l.table l.at
