use Rattle.std.proofs.Common.{◌≡◌, length, take, map, None}
use Rattle.deploy_histories.specs.Events.{progress}
use Rattle.board_dealing.specs.Kept.{IsKept}
use Rattle.board_replays.specs.Plays.{HavePlayed}
use Rattle.board_replays.specs.Replays.{noted_of}
use Rattle.board_replays.proofs.replaying.play_all.Given as goal

abbrev pub invariant-loop-noted : goal.invariant-loop-noted
invariant-loop-noted g l = record {
  sound : g.S.Standings.sound l.standings;
  planned : g.S.Standings.planned l.standings ≡ g.S.Standings.planned l.fn.standings;
  unrefused : (progress l.history.events).refusal ≡ None;
  kept : IsKept (g.S.Standings.planned l.fn.standings) (g.S.Standings.known l.standings) l.history.count
      l.history.events l.agenda l.seen;
  place : l.place ≡ length l.yielded;
  played : HavePlayed (g.S.Standings.planned l.fn.standings) (take (length l.yielded) (map noted_of l.fn.answers.items))
      l.late.items l.history.events;
}
