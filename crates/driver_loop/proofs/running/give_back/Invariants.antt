use Rattle.std.proofs.Common.{◌≡◌, length}
use Rattle.driver_loop.specs.Runs.{Tied}
use Rattle.driver_loop.proofs.running.give_back.Given as goal

abbrev pub invariant-loop-k : goal.invariant-loop-k
invariant-loop-k g l = (length l.opens ≡ length l.fn.opens) × Tied (g.G.Dealer.steps l.board) l.opens
    × (g.G.Dealer.fixed l.board ≡ g.G.Dealer.fixed l.fn.board)
