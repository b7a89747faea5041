use Rattle.std.proofs.Common.{ℕ, List, Option, subst, sym}
use Rattle.deploy_histories.specs.Events.{Event, at_opening}
use Rattle.deploy_histories.specs.Answers.{IsReplay}
use Rattle.board_replays.specs.Plays.{AreAllPlayed}
use Rattle.board_replays.proofs.LateLemmas.{replay_of}
use Rattle.board_replays.proofs.replaying.finish.Goals as goal

pub returns-in-Some-clause-kept : goal.returns-in-Some-clause-kept
returns-in-Some-clause-kept g c = λ seen k. k

pub returns-in-Some-clause-replayed : goal.returns-in-Some-clause-replayed
returns-in-Some-clause-replayed g c =
    λ ns p. subst (λ (b : Option ℕ). AreAllPlayed (g.S.Standings.planned c.args.standings.now) ns c.args.late.items
    c.args.history.now.events b) c.in-Some.is p

pub answer_all-requires-clause-may : goal.answer_all-requires-clause-may
answer_all-requires-clause-may g c = c.requires.may c.in-None.is

pub returns-in-None-clause-replayed : goal.returns-in-None-clause-replayed
returns-in-None-clause-replayed g c =
    λ ns p. subst (λ (h : List Event). IsReplay (g.S.Standings.planned c.args.standings.now) at_opening ns h)
    (sym c.answer_all.ensures.history)
    (replay_of (g.S.Standings.planned c.args.standings.now) ns c.args.late.items c.args.history.now.events
    (subst (λ (b : Option ℕ). AreAllPlayed (g.S.Standings.planned c.args.standings.now) ns c.args.late.items
    c.args.history.now.events b) c.in-None.is p))
