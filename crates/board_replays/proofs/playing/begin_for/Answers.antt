use Rattle.std.proofs.Common.{sym, subst}
use Rattle.deploy_histories.specs.Planned.{Planned}
use Rattle.deploy_histories.specs.Events.{progress}
use Rattle.board_dealing.proofs.PassLemmas.{goes_of}
use Rattle.board_dealing.proofs.LookLemmas.{kept_as}
use Rattle.board_replays.specs.Plays.{IsPlayable}
use Rattle.board_replays.specs.Replays.{noted_of}
use Rattle.board_replays.proofs.PlayLemmas.{begun_as}
use Rattle.board_replays.proofs.playing.begin_for.Goals as goal

pub begin_if-requires-clause-kept : goal.begin_if-requires-clause-kept
begin_if-requires-clause-kept g c =
    kept_as (g.S.Standings.planned c.args.standings.now) (g.S.Standings.planned c.may_play.new.standings)
    (g.S.Standings.known c.args.standings.now) (g.S.Standings.known c.may_play.new.standings)
    c.args.history.now.count c.args.history.now.events c.args.agenda.now c.args.agenda.now c.may_play.ensures.planned
    c.may_play.ensures.kept c.requires.kept

pub begin_if-requires-clause-playable : goal.begin_if-requires-clause-playable
begin_if-requires-clause-playable g c =
    subst (λ (x : Planned). IsPlayable x (progress c.args.history.now.events) (noted_of c.args.noted) c.in-Ok.may)
    (sym c.may_play.ensures.planned) c.in-Ok.ensures.may

pub returns-in-Ok-clause-kept : goal.returns-in-Ok-clause-kept
returns-in-Ok-clause-kept g c =
    λ seen k. goes_of (g.S.Standings.planned c.args.standings.now) (g.S.Standings.planned c.may_play.new.standings)
    (g.S.Standings.known c.may_play.new.standings) (g.S.Standings.known c.may_play.new.standings)
    c.args.history.now c.begin_if.new.history c.args.agenda.now c.args.agenda.now seen c.may_play.ensures.planned
    c.begin_if.ensures.kept (c.may_play.ensures.kept seen k)

pub returns-in-Ok-clause-begun : goal.returns-in-Ok-clause-begun
returns-in-Ok-clause-begun g c =
    begun_as (g.S.Standings.planned c.args.standings.now) (g.S.Standings.planned c.may_play.new.standings)
    c.args.history.now.events (noted_of c.args.noted) c.begin_if.new.history.events c.begin_if.result
    c.may_play.ensures.planned c.begin_if.ensures.begun

pub returns-in-Err-clause-kept : goal.returns-in-Err-clause-kept
returns-in-Err-clause-kept g c = λ seen k. c.may_play.ensures.kept seen k
