use Rattle.scope_faults.proofs.CircleLemmas.{OpenLeft}
use Rattle.scope_faults.proofs.circles.open_of.Given as goal

abbrev pub invariant-each : goal.invariant-each
invariant-each l = OpenLeft l.later.entries.items l.lines l.vacant.items l.at-index
