use Rattle.std.proofs.Common.{sym, ap, ◌∙◌, refl}
use Rattle.crew_channels.specs.declared.order.Order.TheVariants.{Run}
use Rattle.crew_channels.specs.declared.orders.Orders.{Orders}
use Rattle.crew_channels.specs.declared.results.Results.{Results}
use Rattle.crew_workers.proofs.SeatedLemmas.{seated_run, seated_stop}
use Rattle.crew_workers.proofs.worker.do_order.Goals as goal
use Rattle.crew_workers.specs.Received.{is_job}
use Rattle.seat_calls.specs.Dones.{Made}
use Rattle.seat_calls.proofs.DoneLemmas.{made_more}

pub receive_order-requires : goal.receive_order-requires
receive_order-requires g c =
    (c.requires.at_orders, ap (λ (x : Orders). x.receives) c.requires.orders_role)

pub send_done-requires-clause-seat : goal.send_done-requires-clause-seat
send_done-requires-clause-seat g c = c.requires.at_results

pub send_done-requires-clause-role : goal.send_done-requires-clause-role
send_done-requires-clause-role g c = (
  ap (λ (x : Results). x.sends) c.requires.results_role,
  ap (λ (x : Results). x.receives) c.requires.results_role,
)

pub send_done-requires-clause-own : goal.send_done-requires-clause-own
send_done-requires-clause-own g c =
    c.done_by-done.ensures.worker ∙ sym (ap (λ (x : Results). x.worker) c.requires.results_role)

pub returns-in-Run-clause-seated : goal.returns-in-Run-clause-seated
returns-in-Run-clause-seated g c =
    let made = Made g.P.Serves.may g.P.Serves.tells g.P.Serves.calls g.P.Serves.faults in
    let d = c.done_by-done.result in
    seated_run made _ _ c.args.worker.now _ c.requires d c.receive_order.result
    (c.in-Run.is ∙ ap Run (sym c.done_by-done.ensures.job)) refl c.receive_order.ensures.seat
    c.receive_order.ensures.got c.send_done.ensures.seat c.send_done.ensures.sent
    (made_more g.P.Serves.may g.P.Serves.tells g.P.Serves.calls g.P.Serves.faults _ _ _ _ d c.requires.calls
    c.done_by-done.ensures.called)

pub returns-in-Stop-clause-seated : goal.returns-in-Stop-clause-seated
returns-in-Stop-clause-seated g c =
    let made = Made g.P.Serves.may g.P.Serves.tells g.P.Serves.calls g.P.Serves.faults in
    seated_stop made _ _ c.args.worker.now _ c.requires c.receive_order.result c.in-Stop.is refl refl refl refl
    c.receive_order.ensures.seat c.receive_order.ensures.got

pub returns-in-Run-clause-received : goal.returns-in-Run-clause-received
returns-in-Run-clause-received g c = (
  c.receive_order.result,
  ap (λ (x : Orders). x.got) c.receive_order.ensures.got,
  sym (ap is_job c.in-Run.is),
)

pub returns-in-Stop-clause-received : goal.returns-in-Stop-clause-received
returns-in-Stop-clause-received g c = (
  c.receive_order.result,
  ap (λ (x : Orders). x.got) c.receive_order.ensures.got,
  sym (ap is_job c.in-Stop.is),
)
