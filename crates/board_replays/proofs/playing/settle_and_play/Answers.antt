use Rattle.std.proofs.Common.{◌∙◌}
use Rattle.board_dealing.proofs.Pausing.{settled}
use Rattle.board_dealing.proofs.PassLemmas.{kept_of, goes_of}
use Rattle.board_replays.specs.Replays.{noted_of}
use Rattle.board_replays.proofs.PlayLemmas.{played_as}
use Rattle.board_replays.proofs.playing.settle_and_play.Goals as goal

pub play_early-requires-clause-kept : goal.play_early-requires-clause-kept
play_early-requires-clause-kept g c = (
  c.settle.new.seen,
  kept_of (g.S.Standings.planned c.args.standings.now) (g.S.Standings.planned c.settle.new.standings)
      (g.S.Standings.known c.settle.new.standings) c.settle.new.history.count c.settle.new.history.events
      c.settle.new.agenda c.settle.new.seen c.settle.ensures.planned c.settle.ensures.kept,
)

pub returns-in-Ok-clause-planned : goal.returns-in-Ok-clause-planned
returns-in-Ok-clause-planned g c = c.play_early.ensures.planned ∙ c.settle.ensures.planned

pub returns-in-Ok-clause-kept : goal.returns-in-Ok-clause-kept
returns-in-Ok-clause-kept g c =
    goes_of (g.S.Standings.planned c.args.standings.now) (g.S.Standings.planned c.settle.new.standings)
    (g.S.Standings.known c.settle.new.standings) (g.S.Standings.known c.play_early.new.standings)
    c.settle.new.history c.play_early.new.history c.settle.new.agenda c.play_early.new.agenda c.settle.new.seen
    c.settle.ensures.planned c.play_early.ensures.kept c.settle.ensures.kept

pub returns-in-Ok-clause-played : goal.returns-in-Ok-clause-played
returns-in-Ok-clause-played g c =
    λ ns a. played_as (g.S.Standings.planned c.args.standings.now) (g.S.Standings.planned c.settle.new.standings) ns
    (noted_of c.args.noted) c.args.history.now.events c.settle.new.history.events c.play_early.new.late.items
    c.play_early.new.history.events c.play_early.result c.settle.ensures.planned c.play_early.ensures.played a
    (record {
      has_passed = c.settle.ensures.passed;
      is_settled = settled (g.S.Standings.planned c.args.standings.now) (g.S.Standings.known c.settle.new.standings)
          c.settle.new.history.count c.settle.new.history.events c.settle.new.agenda c.settle.new.seen
          c.settle.ensures.kept c.in-Ok.ensures.caught c.in-Ok.ensures.none;
    })
