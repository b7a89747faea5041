use Rattle.std.proofs.Common.{subst}
use Rattle.std.specs.Prelude.{IfOk}
use Rattle.bicep_circles.specs.Links.{links}
use Rattle.bicep_circles.specs.Orders.{AreSorted}
use Rattle.bicep_checks.proofs.KindLemmas.{same_file}
use Rattle.bicep_checks.proofs.circles.order_in.Goals as goal

pub returns : goal.returns
returns c =
    subst (λ l. IfOk c.symbol_order.result (AreSorted l))
    (same_file links c.args.file.now c.as_slice.result.now c.as_slice-2.result.now c.as_slice.ensures.value
    c.as_slice-2.ensures.value) c.symbol_order.ensures
