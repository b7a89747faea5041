use Rattle.std.proofs.Common.{rules}
use Rattle.crew_channels.proofs.OrderLemmas.{begins, forks}
use Rattle.crew_channels.proofs.orders.open_orders.Goals as goal

pub bounded_with-requires-clause-rule : goal.bounded_with-requires-clause-rule
bounded_with-requires-clause-rule c = begins

pub another-seat-requires-clause-rule : goal.another-seat-requires-clause-rule
another-seat-requires-clause-rule c = forks _ _ (search rules) (search rules)
