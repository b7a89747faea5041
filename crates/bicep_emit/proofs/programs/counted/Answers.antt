use Rattle.std.proofs.Common.{inl, refl}
use Rattle.program_parts.specs.EmitFault.TheVariants as fault
use Rattle.bicep_emit.specs.Inner.{HasLast, HasOneMore, IsOneTooMany, IsTooMany}
use Rattle.bicep_emit.proofs.ModuleLemmas.{one_fault, one_has}
use Rattle.bicep_emit.proofs.RefusedLemmas.{no_value, other_fault, other_value, refused}
use Rattle.bicep_emit.proofs.programs.counted.Goals as goal

pub returns-in-Ok-clause-last : goal.returns-in-Ok-clause-last
returns-in-Ok-clause-last c =
    other_value (HasLast c.args.inner.templates.items c.args.template c.in-Ok.bytes)
    (HasOneMore c.args.inner c.args.template)
    (one_has c.args.inner c.args.template c.in-Ok.bytes c.requires.least c.in-Ok.ensures) c.short_enough.result
    c.short_enough.ensures.last

pub returns-in-Ok-clause-fault : goal.returns-in-Ok-clause-fault
returns-in-Ok-clause-fault c =
    other_fault (IsTooMany c.in-Ok.bytes) (IsOneTooMany c.args.inner c.args.template)
    (one_fault c.args.inner c.args.template c.in-Ok.bytes c.requires.least c.in-Ok.ensures) c.short_enough.result
    c.short_enough.ensures.fault

pub returns-in-Err-clause-last : goal.returns-in-Err-clause-last
returns-in-Err-clause-last c =
    no_value (HasOneMore c.args.inner c.args.template) c.refuse.result fault.OutOfMemory c.refuse.ensures

pub returns-in-Err-clause-fault : goal.returns-in-Err-clause-fault
returns-in-Err-clause-fault c =
    refused (IsOneTooMany c.args.inner c.args.template) c.refuse.result fault.OutOfMemory c.refuse.ensures (inl refl)
