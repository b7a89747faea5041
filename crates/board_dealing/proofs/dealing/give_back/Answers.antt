use Rattle.deploy_histories.specs.Events as event
use Rattle.board_history.specs.Past.{with_event}
use Rattle.board_dealing.proofs.DealLemmas.{kept_back, goes_as}
use Rattle.board_dealing.proofs.dealing.give_back.Goals as goal

pub returns-clause-kept : goal.returns-clause-kept
returns-clause-kept g c =
    goes_as (g.S.Standings.planned c.args.standings.now) (g.S.Standings.known c.args.standings.now)
    (g.S.Standings.known c.args.standings.now) c.args.history.now c.back.new.self
    (with_event c.args.history.now (event.back c.args.task)) c.args.agenda.now c.args.agenda.now c.back.ensures
    (kept_back (g.S.Standings.planned c.args.standings.now) (g.S.Standings.known c.args.standings.now)
    c.seen_stays.ensures
    c.args.history.now c.args.agenda.now c.args.task c.requires.begun)
