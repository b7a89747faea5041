use Rattle.std.proofs.Common.{inr}
use Rattle.bicep_emit.specs.Faults.{IsBuiltFault, IsNestingFault, IsWholeAndWithin, IsWithin}
use Rattle.bicep_emit.proofs.FileLemmas.{inner_built, of_within}
use Rattle.bicep_emit.proofs.FitLemmas.{program_can}
use Rattle.bicep_emit.proofs.RefusedLemmas.{other_fault, other_value}
use Rattle.bicep_emit.proofs.programs.built.Goals as goal

pub whole_file-requires : goal.whole_file-requires
whole_file-requires c = program_can c.args.parts.now c.requires.known c.requires.within

pub returns-in-Ok-clause-whole : goal.returns-in-Ok-clause-whole
returns-in-Ok-clause-whole c =
    other_value (IsWithin c.in-Ok.template) (IsWholeAndWithin c.args.parts.now)
    (of_within c.args.parts.now c.in-Ok.template c.in-Ok.ensures.whole) c.within.result c.within.ensures.within

pub returns-in-Ok-clause-fault : goal.returns-in-Ok-clause-fault
returns-in-Ok-clause-fault c =
    other_fault (IsNestingFault c.in-Ok.template) (IsBuiltFault c.args.parts.now)
    (λ x h. inr (inr (c.in-Ok.template, (c.in-Ok.ensures.whole, h)))) c.within.result c.within.ensures.fault

pub returns-in-Err-clause-fault : goal.returns-in-Err-clause-fault
returns-in-Err-clause-fault c = inner_built c.args.parts.now c.in-Err.fault c.in-Err.ensures.fault
