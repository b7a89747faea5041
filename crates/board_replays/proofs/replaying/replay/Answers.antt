use Rattle.std.proofs.Common.{map, sym, subst}
use Rattle.deploy_histories.specs.Planned.{Planned}
use Rattle.deploy_histories.specs.Events.{progress}
use Rattle.board_dealing.proofs.PassLemmas.{kept_of, goes_of}
use Rattle.board_replays.specs.Plays.{AreOpen}
use Rattle.board_replays.specs.Replays.{noted_of}
use Rattle.board_replays.proofs.LateLemmas.{open_if, replayed_as}
use Rattle.board_replays.proofs.replaying.replay.Goals as goal

pub finish-requires-clause-kept : goal.finish-requires-clause-kept
finish-requires-clause-kept g c = (
  c.play_all.new.seen,
  kept_of (g.S.Standings.planned c.args.standings.now) (g.S.Standings.planned c.play_all.new.standings)
      (g.S.Standings.known c.play_all.new.standings) c.play_all.new.history.count c.play_all.new.history.events
      c.play_all.new.agenda c.play_all.new.seen c.play_all.ensures.planned c.play_all.ensures.kept,
)

pub finish-requires-clause-may : goal.finish-requires-clause-may
finish-requires-clause-may g c =
    λ e. subst (λ (x : Planned). AreOpen x (progress c.play_all.new.history.events) c.play_all.new.late.items)
    (sym c.play_all.ensures.planned)
    (open_if (g.S.Standings.planned c.args.standings.now) (map noted_of c.args.answers.items)
    c.play_all.new.late.items c.play_all.new.history.events c.in-Ok.bad c.in-Ok.ensures.played e)

pub returns-in-Ok-clause-kept : goal.returns-in-Ok-clause-kept
returns-in-Ok-clause-kept g c =
    goes_of (g.S.Standings.planned c.args.standings.now) (g.S.Standings.planned c.play_all.new.standings)
    (g.S.Standings.known c.play_all.new.standings) (g.S.Standings.known c.play_all.new.standings)
    c.play_all.new.history c.finish.new.history c.play_all.new.agenda c.finish.new.agenda c.play_all.new.seen
    c.play_all.ensures.planned c.finish.ensures.kept c.play_all.ensures.kept

pub returns-in-Ok-clause-replayed : goal.returns-in-Ok-clause-replayed
returns-in-Ok-clause-replayed g c =
    replayed_as (g.S.Standings.planned c.args.standings.now) (g.S.Standings.planned c.play_all.new.standings)
    (map noted_of c.args.answers.items) c.play_all.new.late.items c.play_all.new.history.events
    c.finish.new.history.events c.in-Ok.bad c.finish.result c.play_all.ensures.planned c.finish.ensures.replayed
    c.in-Ok.ensures.played
