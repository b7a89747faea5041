use Rattle.std.proofs.Common.{rules}
use Rattle.crew_channels.proofs.OrderLemmas.{merges, learns}
use Rattle.crew_channels.proofs.orders.rejoin_orders.Goals as goal

pub absorb-requires-clause-rule : goal.absorb-requires-clause-rule
absorb-requires-clause-rule c = merges _ _ _ _ c.requires.roles.0 c.requires.roles.1

pub learn_as-requires-clause-rule : goal.learn_as-requires-clause-rule
learn_as-requires-clause-rule c = learns _ _ (search rules) (search rules)
