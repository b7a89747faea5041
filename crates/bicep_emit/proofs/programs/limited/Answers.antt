use Rattle.bicep_emit.specs.Faults.{IsBuiltFault, IsPartsFault}
use Rattle.bicep_emit.proofs.FileLemmas.{are_measured, built_fault, whole_fault}
use Rattle.bicep_emit.proofs.RefusedLemmas.{other_fault}
use Rattle.bicep_emit.proofs.programs.limited.Goals as goal

pub whole_limits-requires : goal.whole_limits-requires
whole_limits-requires c = are_measured c.args.parts.now c.requires

pub built-requires-clause-within : goal.built-requires-clause-within
built-requires-clause-within c = c.in-Ok.ensures.fits

pub returns-in-Ok-clause-fault : goal.returns-in-Ok-clause-fault
returns-in-Ok-clause-fault c =
    other_fault (IsBuiltFault c.args.parts.now) (IsPartsFault c.args.parts.now) (built_fault c.args.parts.now)
    c.built.result c.built.ensures.fault

pub returns-in-Err-clause-fault : goal.returns-in-Err-clause-fault
returns-in-Err-clause-fault c = whole_fault c.args.parts.now c.in-Err.fault c.in-Err.ensures.fault
