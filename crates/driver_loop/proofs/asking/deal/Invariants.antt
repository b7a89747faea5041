use Rattle.std.proofs.Common.{◌≡◌, length}
use Rattle.driver_loop.specs.Moments.{moment}
use Rattle.driver_loop.proofs.DealLemmas.{Dealt}
use Rattle.driver_loop.proofs.asking.deal.Given as goal

abbrev pub invariant-loop-k : goal.invariant-loop-k
invariant-loop-k g l =
    Dealt (moment (g.G.Dealer.steps l.fn.board) (g.C.Crew.received l.fn.crew) (g.C.Crew.sent l.fn.crew) l.fn.opens)
    (moment (g.G.Dealer.steps l.board) (g.C.Crew.received l.crew) (g.C.Crew.sent l.crew) l.opens)
    ((g.C.Crew.seats l.crew ≡ length l.fn.opens) × g.C.Crew.is_ready l.crew
    × (g.C.Crew.fixed l.crew ≡ g.C.Crew.fixed l.fn.crew) × (g.G.Dealer.fixed l.board ≡ g.G.Dealer.fixed l.fn.board))
