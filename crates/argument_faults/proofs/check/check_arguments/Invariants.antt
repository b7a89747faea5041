use Rattle.argument_faults.proofs.ExtraLemmas.{NoneBefore}
use Rattle.argument_faults.proofs.check.check_arguments.Given as goal

abbrev pub invariant-frames : goal.invariant-frames
invariant-frames l = NoneBefore l.table l.frame
