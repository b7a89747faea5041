use Rattle.std.proofs.Common.{subst}
use Rattle.resolved_program.specs.View.{file_view}
use Rattle.bicep_circles.specs.Links.{links}
use Rattle.bicep_circles.specs.Orders.{AreSorted}
use Rattle.bicep_checks.proofs.KindLemmas.{same_file}
use Rattle.bicep_checks.specs.Faults.{links_of}
use Rattle.file_tables.proofs.order.order_of.Goals as goal

pub unreachable-requires : goal.unreachable-requires
unreachable-requires c =
    c.requires c.in-Circle.field-0
    (subst (AreSorted (links_of (file_view c.args.file.now))) c.in-Circle.is
    (subst (λ l. AreSorted l c.in_ok-sorted.sorted)
    (same_file links c.args.file.now c.as_slice.result.now c.as_slice-2.result.now c.as_slice.ensures.value
    c.as_slice-2.ensures.value) c.in_ok-sorted.ensures))

pub returns : goal.returns
returns c =
    subst (AreSorted (links_of (file_view c.args.file.now))) c.in-Order.is
    (subst (λ l. AreSorted l c.in_ok-sorted.sorted)
    (same_file links c.args.file.now c.as_slice.result.now c.as_slice-2.result.now c.as_slice.ensures.value
    c.as_slice-2.ensures.value) c.in_ok-sorted.ensures)
