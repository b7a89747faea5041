use Rattle.std.proofs.Common.{ap, ◌∙◌}
use Rattle.crossbeam_channel.specs.Claims.{view}
use Rattle.crew_channels.specs.Orders.{jobs_in}
use Rattle.crew_channels.specs.declared.orders.Orders.{Orders}
use Rattle.crew_channels.proofs.OrderLemmas.{jobs_stop}
use Rattle.crew_workers.proofs.post.dismiss.Goals as goal

pub returns-in-Away-clause-sent : goal.returns-in-Away-clause-sent
returns-in-Away-clause-sent g c =
    ap (λ (x : Orders). jobs_in x.sent) c.send_order.ensures.sent ∙ jobs_stop (view c.args.post.now.orders).sent
