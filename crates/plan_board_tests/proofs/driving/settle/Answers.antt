use Rattle.std.proofs.Common.{◌≡◌, Some, sym, subst}
use Rattle.dealer_trait.specs.Steps.{begun}
use Rattle.plan_board_tests.proofs.OpenLemmas.{answered_others}
use Rattle.plan_board_tests.proofs.driving.settle.Goals as goal

pub answer-requires : goal.answer-requires
answer-requires g c = (
  c.args.job.now,
  subst (λ n. begun n (g.D.Dealer.steps c.args.dealer.now) ≡ Some c.args.job.now)
      (sym c.task-number.ensures) c.requires,
  c.in-Some.ensures,
)

pub returns-in-Some : goal.returns-in-Some
returns-in-Some g c =
    answered_others (g.D.Dealer.steps c.args.dealer.now) (g.D.Dealer.steps c.answer.new.self) c.args.job.now.task
    c.task-number.result _ c.task-number.ensures c.answer.ensures.steps

pub returns-in-None : goal.returns-in-None
returns-in-None g c t e i = begun t (g.D.Dealer.steps c.args.dealer.now)
