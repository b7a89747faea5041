use Rattle.std.proofs.Common.{ℕ, map, sym, subst}
use Rattle.bicep_program.specs.Program.{program_file, files_of}
use Rattle.resolved_program.specs.View.{files_view}
use Rattle.bicep_checks.specs.Faults.{OfFile}
use Rattle.bicep_types.specs.Faults.{IsMistyped, IsAnswer}
use Rattle.bicep_types.proofs.FaultLemmas.{untyped_answer, all_fit, none_at_all}
use Rattle.bicep_types.proofs.checking.check.Goals as goal

pub returns-in-Err-clause-fault : goal.returns-in-Err-clause-fault
returns-in-Err-clause-fault c =
    subst (IsAnswer (files_of c.args.program.now)) (sym c.fault_of.ensures)
    (untyped_answer (files_of c.args.program.now) c.in-Err.fault c.in-Err.ensures.fault)

pub returns-in-Ok-types-clause-fits : goal.returns-in-Ok-types-clause-fits
returns-in-Ok-types-clause-fits c =
    all_fit (files_of c.args.program.now) (files_view c.in-Ok.resolved) c.in-Ok.ensures.resolved
    (subst (λ xs. (k at : ℕ) → ¬ OfFile (map program_file xs) k (IsMistyped (map program_file xs) at))
    c.as_slice.ensures.value c.in-Ok-types.ensures.none)

pub returns-in-Ok-types-clause-none : goal.returns-in-Ok-types-clause-none
returns-in-Ok-types-clause-none c =
    none_at_all (files_of c.args.program.now) c.in-Ok.ensures.none
    (subst (λ xs. (k at : ℕ) → ¬ OfFile (map program_file xs) k (IsMistyped (map program_file xs) at))
    c.as_slice.ensures.value c.in-Ok-types.ensures.none)
