use Rattle.std.proofs.Common.{inl, length, ap, subst}
use Rattle.program_parts.specs.Faults.{IsProgramFault}
use Rattle.program_parts.specs.Parts.{HaveOneMoreOrder, IsOrderAt}
use Rattle.program_parts.proofs.FaultLemmas.{of_memory, refused, no_value}
use Rattle.program_parts.proofs.PartLemmas.{more_orders}
use Rattle.program_parts.proofs.parts.with_order.Goals as goal

pub returns-in-Ok-clause-more : goal.returns-in-Ok-clause-more
returns-in-Ok-clause-more c =
    let ss = c.args.sources.now in
    let rs = c.args.files.now in
    more_orders ss rs c.args.orders.items c.requires.orders c.in-Ok.order
    (subst (λ n. IsOrderAt ss rs n c.in-Ok.order)
    (ap length c.as_slice.ensures.value) c.in-Ok.ensures.order) c.with_last.result c.with_last.ensures.added

pub returns-in-Ok-clause-fault : goal.returns-in-Ok-clause-fault
returns-in-Ok-clause-fault c =
    of_memory (IsProgramFault c.args.sources.now c.args.files.now) (λ x e. inl e) c.with_last.result
    c.with_last.ensures.fault

pub returns-in-Err-clause-more : goal.returns-in-Err-clause-more
returns-in-Err-clause-more c =
    no_value (HaveOneMoreOrder c.args.sources.now c.args.files.now c.args.orders.items) c.refuse.result c.in-Err.fault
    c.refuse.ensures

pub returns-in-Err-clause-fault : goal.returns-in-Err-clause-fault
returns-in-Err-clause-fault c =
    refused (IsProgramFault c.args.sources.now c.args.files.now) c.refuse.result c.in-Err.fault c.refuse.ensures
    c.in-Err.ensures.fault
