use Rattle.deploy_histories.specs.Events as event
use Rattle.board_history.specs.Past.{with_event}
use Rattle.board_dealing.proofs.DealLemmas.{kept_finished, goes_as}
use Rattle.board_dealing.proofs.Happening.{begun_within}
use Rattle.board_dealing.proofs.PassLemmas.{in_agenda_of}
use Rattle.board_dealing.proofs.dealing.finish.Goals as goal

pub done-requires : goal.done-requires
done-requires g c =
    in_agenda_of (g.S.Standings.planned c.args._standings.now) (g.S.Standings.known c.args._standings.now)
    c.args.history.now.count c.args.history.now.events c.args.agenda.now c.requires.kept c.args.task
    (begun_within (g.S.Standings.planned c.args._standings.now) c.args.history.now.events c.requires.kept.1.is_legal
    c.args.task c.requires.may.is_begun)

pub returns-clause-kept : goal.returns-clause-kept
returns-clause-kept g c =
    goes_as (g.S.Standings.planned c.args._standings.now) (g.S.Standings.known c.args._standings.now)
    (g.S.Standings.known c.args._standings.now) c.args.history.now c.answer.new.self
    (with_event c.args.history.now (event.answer c.args.task c.args.answer)) c.args.agenda.now c.done.new.self
    c.answer.ensures
    (kept_finished (g.S.Standings.planned c.args._standings.now) (g.S.Standings.known c.args._standings.now)
    c.seen_stays.ensures
    c.args.history.now c.args.agenda.now c.args.task c.args.answer c.requires.does c.requires.may c.done.new.self
    c.done.ensures)
