use Rattle.scope_faults.proofs.OutputLemmas.{NoneNothing}
use Rattle.scope_faults.proofs.outputs.output_fault.Given as goal

abbrev pub invariant-outputs : goal.invariant-outputs
invariant-outputs l = NoneNothing l.register.table l.later l.frame l.number
