use Rattle.std.proofs.Common.{rules}
use Rattle.crew_channels.proofs.OrderLemmas.{gets}
use Rattle.crew_channels.proofs.orders.receive_order.Goals as goal

pub recv_as-requires-clause-rule : goal.recv_as-requires-clause-rule
recv_as-requires-clause-rule g c = (gets _ _ (search rules), λ items views h at. tt)
