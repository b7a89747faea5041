use Rattle.std.proofs.Common.{subst}
use Rattle.resolved_program.specs.View.{file_view}
use Rattle.bicep_circles.specs.Orders.{AreSorted}
use Rattle.bicep_circles.proofs.PlaceLemmas.{no_circle}
use Rattle.bicep_checks.specs.Faults.{links_of}
use Rattle.bicep_checks.proofs.circles.walk_symbols.Goals as goal

pub returns-in_ok-place-in-Order : goal.returns-in_ok-place-in-Order
returns-in_ok-place-in-Order c = (
  no_circle (links_of (file_view c.args.file.now)) c.in-Order.order.items
      (subst (AreSorted (links_of (file_view c.args.file.now))) c.in-Order.is c.in_ok-order.ensures),
  c.in_ok-place-in-Order.ensures,
)
