use Rattle.std.proofs.Common.{◌-◌, length}
use Rattle.board_dealing.specs.Kept.{IsKept}
use Rattle.board_dealing.proofs.waking.catch_up.Given as goal

abbrev pub invariant-places : goal.invariant-places
invariant-places g l =
    IsKept (g.S.Standings.planned l.standings) (g.S.Standings.known l.standings) l.history.count l.history.events
    l.agenda l.seen

abbrev pub decreases-places : goal.decreases-places
decreases-places g l = length l.history.events - l.seen
