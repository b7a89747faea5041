use Rattle.plan_board_tests.specs.Open.{StayOpen}
use Rattle.plan_board_tests.proofs.driving.second.Given as goal

abbrev pub invariant-loop-job : goal.invariant-loop-job
invariant-loop-job g l = StayOpen (g.D.Dealer.steps l.fn.dealer) (g.D.Dealer.steps l.dealer)
