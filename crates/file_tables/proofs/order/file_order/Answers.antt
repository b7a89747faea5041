use Rattle.std.proofs.Common.{sym, subst}
use Rattle.resolved_program.specs.View.{file_view}
use Rattle.bicep_circles.specs.Orders.{IsLinkOrder}
use Rattle.bicep_checks.specs.Faults.{links_of}
use Rattle.file_tables.proofs.order.file_order.Goals as goal

pub order_of-requires : goal.order_of-requires
order_of-requires c =
    let h = c.requires.1 in
    c.checked_files_have_no_circle.ensures h.files c.requires.0 h.resolved h.none h.number
    (file_view c.args.file.now) h.is

pub marked-requires : goal.marked-requires
marked-requires c =
    subst (IsLinkOrder (links_of (file_view c.args.file.now))) (sym c.as_slice.ensures.value) c.in_ok-order.ensures

pub returns-in-Ok-clause-order : goal.returns-in-Ok-clause-order
returns-in-Ok-clause-order c = record { order = c.in_ok-order.ensures; entries = c.in-Ok.ensures.file }
