use Rattle.plan_board_tests.proofs.OpenLemmas.{asked_job, just_open}
use Rattle.plan_board_tests.proofs.any_order.first_job.Goals as goal

pub hold-requires : goal.hold-requires
hold-requires g c =
    let a = asked_job 0 (g.D.Dealer.steps c.args.dealer.now) (g.D.Dealer.steps c.next.new.self) c.next.result
    c.in-Ok-Begun.field-0 c.in-Ok-Begun.job c.in-Ok-Begun.is c.in-Ok-Begun.field-0-is c.next.ensures.asked in
    just_open (g.D.Dealer.steps c.args.dealer.now) (g.D.Dealer.steps c.next.new.self) c.in-Ok-Begun.job a.1 a.2
