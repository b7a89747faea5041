use Rattle.std.proofs.Common.{◌++◌, sym, ap, ◌∙◌, subst}
use Rattle.crossbeam_channel.specs.Claims.{view, IsSeatAt}
use Rattle.crew_channels.specs.declared.orders.Orders.{Orders}
use Rattle.crew_channels.specs.declared.results.Results.{Results}
use Rattle.seat_calls.specs.Dones.{of}
use Rattle.crew_seating.proofs.BackLemmas.{told_by, none_by}
use Rattle.crew_seating.proofs.closing.close_one.Goals as goal

pub rejoin_orders-requires-clause-seats : goal.rejoin_orders-requires-clause-seats
rejoin_orders-requires-clause-seats g c = (
  c.requires.stationed.at_orders,
  subst (λ r. IsSeatAt r c.args.station.worker.orders) c.requires.paired c.requires.stationed.seated.at_orders,
)

pub rejoin_orders-requires-clause-roles : goal.rejoin_orders-requires-clause-roles
rejoin_orders-requires-clause-roles g c =
    (c.requires.stationed.sends, ap (λ (x : Orders). x.receives) c.requires.stationed.seated.orders_role)

pub rejoin_results-requires-clause-seats : goal.rejoin_results-requires-clause-seats
rejoin_results-requires-clause-seats g c = (c.requires.driver.0, c.requires.stationed.seated.at_results)

pub rejoin_results-requires-clause-roles : goal.rejoin_results-requires-clause-roles
rejoin_results-requires-clause-roles g c =
    (c.requires.driver.1, ap (λ (x : Results). x.sends) c.requires.stationed.seated.results_role)

pub returns-clause-left : goal.returns-clause-left
returns-clause-left g c =
    let w = c.args.station.worker in
    let seated = c.requires.stationed.seated in
    let o = c.rejoin_orders.ensures.left in
    let r = c.rejoin_results.ensures.left in
    told_by (view c.args.station.orders).sent (view w.orders).got o.0 (view c.args.pass.now).got r.0
    (view w.results).sent w.number o.1
    (ap (λ n. of n ((view c.args.pass.now).got ++ r.0)) (sym (ap (λ (x : Results). x.worker) seated.results_role))
    ∙ r.1)
    seated.jobs

pub returns-clause-others : goal.returns-clause-others
returns-clause-others g c k late = none_by _ c.rejoin_results.ensures.left.0 k (c.rejoin_results.ensures.left.2 k late)
