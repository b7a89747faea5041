use Rattle.std.proofs.Common.{map, sym, subst}
use Rattle.bicep_program.specs.Program.{program_file, files_of}
use Rattle.resolved_program.specs.Faults as names
use Rattle.bicep_checks.specs.Order.{IsAnswer}
use Rattle.bicep_checks.proofs.OrderLemmas.{name_first}
use Rattle.bicep_checks.proofs.resolving.resolve.Goals as goal

pub returns-in-Err-clause-fault : goal.returns-in-Err-clause-fault
returns-in-Err-clause-fault c =
    subst (IsAnswer (files_of c.args.program.now)) (sym c.fault_of.ensures)
    (name_first (files_of c.args.program.now) c.in-Err.fault
    (subst (λ xs. names.IsFirst (map program_file xs) c.in-Err.fault) c.as_slice-files.ensures.value
    c.in-Err.ensures.fault))
