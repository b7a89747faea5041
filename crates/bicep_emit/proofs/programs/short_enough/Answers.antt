use Rattle.std.proofs.Common.{inl, inr, refl}
use Rattle.template_parts.specs.declared.limit.Which.TheVariants as which
use Rattle.program_parts.specs.EmitFault.TheVariants as fault
use Rattle.program_parts.specs.Faults.{IsMemoryFault}
use Rattle.bicep_emit.specs.Inner.{HasLast, IsTooMany}
use Rattle.bicep_emit.proofs.ModuleLemmas.{inner_last, inner_memory}
use Rattle.bicep_emit.proofs.RefusedLemmas.{no_value, other_fault, refused}
use Rattle.bicep_emit.proofs.programs.short_enough.Goals as goal

pub returns-then-bytes-clause-last : goal.returns-then-bytes-clause-last
returns-then-bytes-clause-last c =
    no_value (HasLast c.args.templates.items c.args.template c.args.bytes) c.refuse.result
    (fault.Limit which.Bytes c.args.bytes) c.refuse.ensures

pub returns-then-bytes-clause-fault : goal.returns-then-bytes-clause-fault
returns-then-bytes-clause-fault c =
    refused (IsTooMany c.args.bytes) c.refuse.result (fault.Limit which.Bytes c.args.bytes) c.refuse.ensures
    (inr (refl, c.if-bytes.true))

pub returns-else-bytes-clause-last : goal.returns-else-bytes-clause-last
returns-else-bytes-clause-last c =
    inner_last c.args.templates.items c.args.template c.args.bytes c.with_last.result c.inner_of.result
    c.inner_of.ensures c.with_last.ensures

pub returns-else-bytes-clause-fault : goal.returns-else-bytes-clause-fault
returns-else-bytes-clause-fault c =
    other_fault IsMemoryFault (IsTooMany c.args.bytes) (λ x h. inl h) c.inner_of.result
    (inner_memory c.args.bytes c.with_last.result c.inner_of.result c.inner_of.ensures)
