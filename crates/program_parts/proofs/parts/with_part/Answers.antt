use Rattle.std.proofs.Common.{inl, length, sym, ap, subst}
use Rattle.program_parts.specs.Faults.{IsProgramFault}
use Rattle.program_parts.specs.Parts.{HaveOneMorePart, IsOrderAt, IsPartAt}
use Rattle.program_parts.proofs.FaultLemmas.{of_memory, refused, no_value}
use Rattle.program_parts.proofs.PartLemmas.{more_parts}
use Rattle.program_parts.proofs.parts.with_part.Goals as goal

pub part_at-requires-clause-order : goal.part_at-requires-clause-order
part_at-requires-clause-order c =
    subst (λ n. IsOrderAt c.args.sources.now c.args.files.now n c.args.order.now)
    (sym (ap length c.as_slice.ensures.value)) c.requires.order

pub returns-in-Ok-clause-more : goal.returns-in-Ok-clause-more
returns-in-Ok-clause-more c =
    let ss = c.args.sources.now in
    let rs = c.args.files.now in
    more_parts ss rs c.args.form c.args.parts.items c.requires.parts c.in-Ok.part
    (subst (λ n. IsPartAt c.args.form ss rs n c.in-Ok.part)
    (ap length c.as_slice.ensures.value) c.in-Ok.ensures.part) c.with_last.result c.with_last.ensures.added

pub returns-in-Ok-clause-fault : goal.returns-in-Ok-clause-fault
returns-in-Ok-clause-fault c =
    of_memory (IsProgramFault c.args.sources.now c.args.files.now) (λ x e. inl e) c.with_last.result
    c.with_last.ensures.fault

pub returns-in-Err-clause-more : goal.returns-in-Err-clause-more
returns-in-Err-clause-more c =
    no_value (HaveOneMorePart c.args.form c.args.sources.now c.args.files.now c.args.parts.items) c.refuse.result
    c.in-Err.fault
    c.refuse.ensures

pub returns-in-Err-clause-fault : goal.returns-in-Err-clause-fault
returns-in-Err-clause-fault c =
    refused (IsProgramFault c.args.sources.now c.args.files.now) c.refuse.result c.in-Err.fault c.refuse.ensures
    c.in-Err.ensures.fault
