use Rattle.plan_board_tests.proofs.OpenLemmas.{asked_job, just_open, begun_stays}
use Rattle.plan_board_tests.proofs.any_order.exchanged.Goals as goal

pub one_ends-requires-clause-held : goal.one_ends-requires-clause-held
one_ends-requires-clause-held g c =
    let a = asked_job 1 (g.D.Dealer.steps c.args.dealer.now) (g.D.Dealer.steps c.next.new.self) c.next.result
    c.in-Ok-Begun.field-0 c.in-Ok-Begun.other c.in-Ok-Begun.is c.in-Ok-Begun.field-0-is c.next.ensures.asked in
    begun_stays (g.D.Dealer.steps c.args.dealer.now) (g.D.Dealer.steps c.next.new.self) c.in-Ok-Begun.other a.1 a.2
    c.args.held.task c.args.held c.requires

pub one_ends-requires-clause-other : goal.one_ends-requires-clause-other
one_ends-requires-clause-other g c =
    let a = asked_job 1 (g.D.Dealer.steps c.args.dealer.now) (g.D.Dealer.steps c.next.new.self) c.next.result
    c.in-Ok-Begun.field-0 c.in-Ok-Begun.other c.in-Ok-Begun.is c.in-Ok-Begun.field-0-is c.next.ensures.asked in
    just_open (g.D.Dealer.steps c.args.dealer.now) (g.D.Dealer.steps c.next.new.self) c.in-Ok-Begun.other a.1 a.2
