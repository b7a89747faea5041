use Rattle.plan_board_tests.proofs.OpenLemmas.{asked_job, just_open, settled_stays}
use Rattle.plan_board_tests.proofs.driving.second_job.Goals as goal

pub settle-done-requires : goal.settle-done-requires
settle-done-requires g c =
    let a = asked_job 1 (g.D.Dealer.steps c.args.dealer.now) (g.D.Dealer.steps c.next.new.self) c.next.result
    c.in-Ok-Begun.field-0 c.in-Ok-Begun.job c.in-Ok-Begun.is c.in-Ok-Begun.field-0-is c.next.ensures.asked in
    just_open (g.D.Dealer.steps c.args.dealer.now) (g.D.Dealer.steps c.next.new.self) c.in-Ok-Begun.job a.1 a.2

pub returns-after-told : goal.returns-after-told
returns-after-told g c =
    let a = asked_job 1 (g.D.Dealer.steps c.args.dealer.now) (g.D.Dealer.steps c.next.new.self) c.next.result
    c.in-Ok-Begun.field-0 c.in-Ok-Begun.job c.in-Ok-Begun.is c.in-Ok-Begun.field-0-is c.next.ensures.asked in
    settled_stays (g.D.Dealer.steps c.args.dealer.now) (g.D.Dealer.steps c.next.new.self) c.in-Ok-Begun.job a.1 a.2
    (g.D.Dealer.steps c.settle-done.new.dealer) c.settle-done.ensures
