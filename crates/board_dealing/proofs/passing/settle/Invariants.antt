use Rattle.std.proofs.Common.{◌≡◌, None, length}
use Rattle.deploy_histories.specs.Events.{progress}
use Rattle.board_dealing.specs.Boards.{HasPassed}
use Rattle.board_dealing.specs.Kept.{IsKept}
use Rattle.board_dealing.specs.Passes.{undone_in}
use Rattle.board_dealing.proofs.passing.settle.Given as goal

abbrev pub invariant-scopes : goal.invariant-scopes
invariant-scopes g l = record {
  sound : g.S.Standings.sound l.standings;
  planned : g.S.Standings.planned l.standings ≡ g.S.Standings.planned l.fn.standings;
  kept : IsKept (g.S.Standings.planned l.fn.standings) (g.S.Standings.known l.standings) l.history.count
      l.history.events l.agenda l.seen;
  unrefused : (progress l.history.events).refusal ≡ None;
  passed : HasPassed (g.S.Standings.planned l.fn.standings) l.fn.history.events l.history.events;
  caught : l.seen ≡ length l.history.events;
}

abbrev pub decreases-scopes : goal.decreases-scopes
decreases-scopes g l =
    undone_in (length (g.S.Standings.planned l.fn.standings).tasks) (progress l.history.events).status
