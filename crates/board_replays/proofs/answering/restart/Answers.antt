use Rattle.board_replays.proofs.CrashLemmas.{kept_restarted, crashed_is}
use Rattle.board_replays.proofs.answering.restart.Goals as goal

pub returns-clause-kept : goal.returns-clause-kept
returns-clause-kept g c =
    kept_restarted (g.S.Standings.planned c.args._standings.now) (g.S.Standings.known c.args._standings.now)
    c.seen_stays.ensures c.args.history.now c.crash.new.self c.args.agenda.now c.wake_all.new.self c.args.seen.now
    c.happened.result
    (crashed_is c.args.history.now c.crash.new.self c.crash.result c.in_ok-crash.field-0 c.in_ok-crash.was
    c.crash.ensures) c.happened.ensures c.requires c.wake_all.ensures.keeps c.in_ok-wake_all.ensures.all

pub returns-clause-history : goal.returns-clause-history
returns-clause-history g c =
    crashed_is c.args.history.now c.crash.new.self c.crash.result c.in_ok-crash.field-0 c.in_ok-crash.was
    c.crash.ensures
