use Rattle.scope_faults.proofs.OutputLemmas.{NoneWaits}
use Rattle.scope_faults.proofs.outputs.outputs_lack.Given as goal

abbrev pub invariant-outputs : goal.invariant-outputs
invariant-outputs l = NoneWaits l.register.table l.later l.frame l.number
