use Rattle.scope_faults.proofs.CircleLemmas.{NoneBefore}
use Rattle.scope_faults.proofs.circles.lines_lack.Given as goal

abbrev pub invariant-each : goal.invariant-each
invariant-each l = NoneBefore l.register.table l.later l.lines l.at-index
