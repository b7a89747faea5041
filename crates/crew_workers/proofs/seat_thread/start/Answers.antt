use Rattle.std.proofs.Common.{rules, ap, ◌∙◌}
use Rattle.crossbeam_channel.specs.Claims.{view}
use Rattle.crew_channels.specs.Orders.{jobs_in}
use Rattle.crew_channels.specs.declared.orders.Orders.{Orders}
use Rattle.crew_channels.proofs.OrderLemmas.{jobs_stop}
use Rattle.crew_workers.proofs.seat_thread.start.Goals as goal

pub returns-in-Err-clause-start : goal.returns-in-Err-clause-start
returns-in-Err-clause-start g c = (
  ap (λ (x : Orders). jobs_in x.sent) c.send_order.ensures.sent ∙ jobs_stop (view c.args.station.orders).sent,
  search rules,
  search rules,
)
