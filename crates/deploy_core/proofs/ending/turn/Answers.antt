use Rattle.deploy_histories.specs.Events.{progress}
use Rattle.deploy_core.proofs.EndLemmas.{is_needed, turns_more, edge_added}
use Rattle.deploy_core.proofs.ending.turn.Goals as goal

pub returns-in_ok-add_edge-in-Needs-clause-turn : goal.returns-in_ok-add_edge-in-Needs-clause-turn
returns-in_ok-add_edge-in-Needs-clause-turn g c =
    turns_more (g.S.Standings.planned c.args.standings.now) (progress c.args.history.now.events)
    c.args.turns.now c.add_edge.new.self c.args.task c.in-Needs.other c.requires.turns c.requires.within
    (is_needed g.S.Standings.tells (g.S.Standings.planned c.args.standings.now) (progress c.args.history.now.events)
    c.args.task c.in_ok-fault.field-0 c.in-Needs.other c.in-Needs.is c.in_ok-fault.ensures.reason)
    (edge_added c.args.turns.now c.add_edge.new.self c.args.task c.in-Needs.other c.add_edge.result
    c.in_ok-add_edge-in-Needs.field-0 c.in_ok-add_edge-in-Needs.was c.add_edge.ensures)
