use Rattle.deploy_histories.specs.Events.{progress}
use Rattle.deploy_core.proofs.EndLemmas.{done_in_turn, circle_in_turn, success_is}
use Rattle.deploy_core.proofs.ending.ending_in_turn.Goals as goal

pub succeeded-requires-clause-over : goal.succeeded-requires-clause-over
succeeded-requires-clause-over g c = (
  progress c.args._history.now.events,
  record {
    all_done = done_in_turn g.S.Standings.tells (g.S.Standings.planned c.args.standings.now)
        (progress c.args._history.now.events) c.args.turns c.in_ok-_order.field-0 c.in-Order._order c.in-Order.is
        c.requires.turns c.in_ok-_order.ensures;
    scopes = c.requires.scopes;
  },
)

pub returns-in-Order : goal.returns-in-Order
returns-in-Order g c =
    success_is g.S.Standings.tells (g.S.Standings.planned c.args.standings.now) (progress c.args._history.now.events)
    (g.S.Standings.known c.args.standings.now) c.requires.seen.known_then
    (done_in_turn g.S.Standings.tells (g.S.Standings.planned c.args.standings.now)
    (progress c.args._history.now.events) c.args.turns c.in_ok-_order.field-0 c.in-Order._order c.in-Order.is
    c.requires.turns c.in_ok-_order.ensures) c.outputs_by_all.ensures c.succeeded.result c.succeeded.ensures

pub returns-in-Circle : goal.returns-in-Circle
returns-in-Circle g c =
    circle_in_turn g.S.Standings.tells (g.S.Standings.planned c.args.standings.now)
    (progress c.args._history.now.events) c.args.turns c.in_ok-_order.field-0 c.in-Circle.tasks c.in-Circle.is
    c.requires.turns c.in_ok-_order.ensures
