use Rattle.std.proofs.Common.{map}
use Rattle.board_dealing.proofs.PassLemmas.{kept_of}
use Rattle.board_replays.specs.Replays.{noted_of}
use Rattle.board_replays.proofs.LateLemmas.{some_mapped, reopened_as, fault_as, kept_ok}
use Rattle.board_replays.proofs.replaying.go_on.Goals as goal

pub judge-requires : goal.judge-requires
judge-requires g c =
    kept_of (g.S.Standings.planned c.args.standings.now) (g.S.Standings.planned c.replay.new.standings)
    (g.S.Standings.known c.replay.new.standings) c.replay.new.history.count c.replay.new.history.events
    c.replay.new.agenda c.replay.new.seen c.replay.ensures.planned c.replay.ensures.kept

pub returns-in-Ok-clause-kept : goal.returns-in-Ok-clause-kept
returns-in-Ok-clause-kept g c =
    kept_ok (g.S.Standings.planned c.args.standings.now) (g.S.Standings.planned c.replay.new.standings)
    (g.S.Standings.known c.replay.new.standings) c.judge.new.history.count c.judge.new.history.events
    c.judge.new.agenda c.judge.new.seen c.judge.result c.replay.ensures.planned c.judge.ensures.kept

pub returns-in-Ok-clause-reopened : goal.returns-in-Ok-clause-reopened
returns-in-Ok-clause-reopened g c =
    reopened_as (g.S.Standings.planned c.args.standings.now) (g.S.Standings.planned c.replay.new.standings)
    (map noted_of c.args.answers.items) c.replay.new.history.events c.judge.new.history.events c.in-Ok.bad
    c.judge.result c.replay.ensures.planned c.judge.ensures.reopened
    (some_mapped c.args.answers.items c.requires.some) c.in-Ok.ensures.replayed

pub returns-in-Ok-clause-fault : goal.returns-in-Ok-clause-fault
returns-in-Ok-clause-fault g c =
    fault_as (g.S.Standings.planned c.args.standings.now) (g.S.Standings.planned c.replay.new.standings)
    (map noted_of c.args.answers.items) c.replay.new.history.events c.in-Ok.bad c.judge.result
    c.replay.ensures.planned c.judge.ensures.fault c.in-Ok.ensures.replayed
