use Rattle.std.proofs.Common.{◌≡◌, ◌++◌, map, drop, length}
use Rattle.deploy_histories.specs.Events.{progress}
use Rattle.board_dealing.specs.Passes.{GoesOn}
use Rattle.board_replays.specs.Plays.{AreOpen}
use Rattle.board_replays.proofs.LateLemmas.{late_event}
use Rattle.board_replays.proofs.answering.answer_all.Given as goal

abbrev pub invariant-loop-task : goal.invariant-loop-task
invariant-loop-task g l = record {
  may : AreOpen (g.S.Standings.planned l.fn.standings) (progress l.history.events)
      (drop (length l.yielded) l.fn.late.items);
  kept : GoesOn (g.S.Standings.planned l.fn.standings) (g.S.Standings.known l.fn.standings)
      (g.S.Standings.known l.fn.standings) l.fn.history l.history l.fn.agenda l.agenda;
  events : l.history.events ++ map late_event (drop (length l.yielded) l.fn.late.items)
      ≡ l.fn.history.events ++ map late_event l.fn.late.items;
}
