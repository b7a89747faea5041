use Rattle.arm_value.specs.View.{json}
use Rattle.deploy_histories.specs.Events.{progress}
use Rattle.board_dealing.proofs.PassLemmas.{in_history, ready_within, ready_waits}
use Rattle.board_replays.proofs.PlayLemmas.{begun_goes}
use Rattle.board_replays.proofs.playing.begin.Goals as goal

pub begin-requires-clause-within : goal.begin-requires-clause-within
begin-requires-clause-within g c =
    in_history (g.S.Standings.planned c.args._standings.now) (g.S.Standings.known c.args._standings.now)
    c.args.history.now.count c.args.history.now.events c.args._agenda.now c.requires.kept c.args.task
    (ready_within (g.S.Standings.planned c.args._standings.now) (progress c.args.history.now.events) c.args.task
    (json c.args.body) c.requires.ready)

pub begin-requires-clause-waits : goal.begin-requires-clause-waits
begin-requires-clause-waits g c =
    ready_waits (g.S.Standings.planned c.args._standings.now) (progress c.args.history.now.events) c.args.task
    (json c.args.body) c.requires.ready

pub returns-clause-kept : goal.returns-clause-kept
returns-clause-kept g c =
    begun_goes (g.S.Standings.planned c.args._standings.now) (g.S.Standings.known c.args._standings.now)
    c.seen_stays.ensures c.args.history.now c.begin.new.self c.args._agenda.now c.args.task c.args.worker
    (json c.args.body) c.begin.result c.begin.ensures c.requires.ready c.requires.act
