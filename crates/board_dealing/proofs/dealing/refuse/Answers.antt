use Rattle.deploy_histories.specs.Events as event
use Rattle.board_history.specs.Past.{with_event}
use Rattle.board_dealing.proofs.DealLemmas.{kept_refused, goes_as}
use Rattle.board_dealing.proofs.dealing.refuse.Goals as goal

pub returns-clause-kept : goal.returns-clause-kept
returns-clause-kept g c =
    goes_as (g.S.Standings.planned c.args._standings.now) (g.S.Standings.known c.args._standings.now)
    (g.S.Standings.known c.args._standings.now) c.args.history.now c.answer.new.self
    (with_event c.args.history.now (event.answer c.args.task c.args.answer)) c.args._agenda.now c.args._agenda.now
    c.answer.ensures
    (kept_refused (g.S.Standings.planned c.args._standings.now) (g.S.Standings.known c.args._standings.now)
    c.seen_stays.ensures
    c.args.history.now c.args._agenda.now c.args.task c.args.answer c.requires.refuses c.requires.may)
