use Rattle.std.proofs.Common.{◌≡◌, Some, sym, subst}
use Rattle.dealer_trait.specs.Steps.{begun}
use Rattle.plan_board_tests.proofs.OpenLemmas.{given_back_others}
use Rattle.plan_board_tests.proofs.any_order.give_back.Goals as goal

pub back-requires : goal.back-requires
back-requires g c = (
  c.args.job.now,
  subst (λ n. begun n (g.D.Dealer.steps c.args.dealer.now) ≡ Some c.args.job.now)
      (sym c.task-number.ensures) c.requires,
)

pub returns : goal.returns
returns g c =
    given_back_others (g.D.Dealer.steps c.args.dealer.now) (g.D.Dealer.steps c.back.new.self) c.args.job.now.task
    c.task-number.result c.task-number.ensures c.back.ensures.steps
