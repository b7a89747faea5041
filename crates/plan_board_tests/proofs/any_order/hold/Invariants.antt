use Rattle.std.proofs.Common.{◌≡◌, Some}
use Rattle.dealer_trait.specs.Steps.{begun}
use Rattle.plan_board_tests.proofs.any_order.hold.Given as goal

abbrev pub invariant-loop-turn : goal.invariant-loop-turn
invariant-loop-turn g l = begun l.held.task (g.D.Dealer.steps l.dealer) ≡ Some l.held
