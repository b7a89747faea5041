use Rattle.scope_faults.proofs.EntryLemmas.{ValuedBefore}
use Rattle.scope_faults.proofs.entries.first_without.Given as goal

abbrev pub invariant-each : goal.invariant-each
invariant-each l = ValuedBefore l.register.table l.later l.lines l.at-index
