use Rattle.dependency_faults.proofs.CheckLemmas.{LinesMet}
use Rattle.dependency_faults.proofs.check.check_lines.Given as goal

abbrev pub invariant-lines : goal.invariant-lines
invariant-lines l = LinesMet l.register.table l.at
