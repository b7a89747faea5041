use Rattle.std.proofs.Common.{◌≡◌, length}
use Rattle.driver_loop.specs.Moments.{moment, pages}
use Rattle.driver_loop.specs.Runs.{Tied}
use Rattle.driver_loop.specs.Turns.{GoesOn}
use Rattle.driver_loop.proofs.running.run.Given as goal

abbrev pub invariant-loop : goal.invariant-loop
invariant-loop g l = (length l.opens ≡ length l.fn.opens)
    × ((g.C.Crew.seats l.crew ≡ length l.fn.opens) × g.C.Crew.is_ready l.crew
    × (g.C.Crew.fixed l.crew ≡ g.C.Crew.fixed l.fn.crew) × (g.G.Dealer.fixed l.board ≡ g.G.Dealer.fixed l.fn.board))
    × Tied (g.G.Dealer.steps l.board) l.opens
    × GoesOn g.B.Book.tells
    (moment (g.G.Dealer.steps l.fn.board) (g.C.Crew.received l.fn.crew) (g.C.Crew.sent l.fn.crew) l.fn.opens)
    (moment (g.G.Dealer.steps l.board) (g.C.Crew.received l.crew) (g.C.Crew.sent l.crew) l.opens)
    (pages g.B.Book.notes g.B.Book.refusals g.B.Book.first g.B.Book.faults g.B.Book.is_broken l.fn.book)
    (pages g.B.Book.notes g.B.Book.refusals g.B.Book.first g.B.Book.faults g.B.Book.is_broken l.book) l.fault
