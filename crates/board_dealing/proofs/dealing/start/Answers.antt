use Rattle.arm_value.specs.View.{json}
use Rattle.deploy_histories.specs.Events.{progress}
use Rattle.board_dealing.proofs.DealLemmas.{act_of_kept, started_goes, started_is, start_failed}
use Rattle.board_dealing.proofs.PassLemmas.{in_history, ready_within}
use Rattle.board_dealing.proofs.dealing.start.Goals as goal

pub begin-requires-clause-within : goal.begin-requires-clause-within
begin-requires-clause-within g c =
    in_history (g.S.Standings.planned c.args.standings.now) (g.S.Standings.known c.args.standings.now)
    c.args.history.now.count c.args.history.now.events c.args.agenda.now c.requires.kept c.args.task
    (ready_within (g.S.Standings.planned c.args.standings.now) (progress c.args.history.now.events) c.args.task
    (json c.args.body) c.requires.ready)

pub begin-requires-clause-act : goal.begin-requires-clause-act
begin-requires-clause-act g c =
    act_of_kept (g.S.Standings.planned c.args.standings.now) (g.S.Standings.known c.args.standings.now)
    c.args.history.now.count c.args.history.now.events c.args.agenda.now c.requires.kept.0 c.args.task
    c.requires.kept.1 c.requires.act

pub returns-in-Ok-clause-kept : goal.returns-in-Ok-clause-kept
returns-in-Ok-clause-kept g c =
    started_goes (g.S.Standings.planned c.args.standings.now) (g.S.Standings.known c.args.standings.now)
    c.seen_stays.ensures
    c.args.history.now c.begin.new.history c.args.agenda.now c.args.task c.args.worker (json c.args.body)
    c.begin.result c.begin.ensures.history c.requires.ready c.requires.act

pub returns-in-Err-clause-kept : goal.returns-in-Err-clause-kept
returns-in-Err-clause-kept g c =
    started_goes (g.S.Standings.planned c.args.standings.now) (g.S.Standings.known c.args.standings.now)
    c.seen_stays.ensures
    c.args.history.now c.begin.new.history c.args.agenda.now c.args.task c.args.worker (json c.args.body)
    c.begin.result c.begin.ensures.history c.requires.ready c.requires.act

pub returns-in-Ok-clause-begun : goal.returns-in-Ok-clause-begun
returns-in-Ok-clause-begun g c =
    started_is (g.S.Standings.planned c.args.standings.now) (g.S.Standings.known c.args.standings.now)
    c.args.history.now c.begin.new.history c.args.task c.args.worker (json c.args.body) c.begin.result
    c.begin.ensures.history c.in-Ok.job c.in-Ok.is c.begin.ensures.job

pub returns-in-Err-clause-out : goal.returns-in-Err-clause-out
returns-in-Err-clause-out g c =
    start_failed (g.S.Standings.planned c.args.standings.now) (g.S.Standings.known c.args.standings.now)
    c.args.history.now c.begin.new.history c.args.task c.args.worker (json c.args.body) c.begin.result
    c.begin.ensures.history c.in-Err.refused c.in-Err.is
