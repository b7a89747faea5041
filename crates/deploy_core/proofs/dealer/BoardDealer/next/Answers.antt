use Rattle.std.proofs.Common.{sym, subst}
use Rattle.dealer_trait.specs.Steps.{AsksFor}
use Rattle.deploy_histories.specs.Planned.{Planned}
use Rattle.deploy_core.specs.Steps.{steps_of}
use Rattle.deploy_core.proofs.PastLemmas.{past_asked, with_plan}
use Rattle.deploy_core.proofs.StepLemmas.{asks}
use Rattle.deploy_core.proofs.dealer.BoardDealer.next.Goals as goal

pub returns-clause-asked : goal.returns-clause-asked
returns-clause-asked g c =
    subst (λ (y : Planned). AsksFor c.args.worker
    (steps_of (g.S.Standings.planned c.args.self.now.0) c.args.self.now.1.events)
    (steps_of y c.next.new.self.1.events) c.next.result) (sym c.next.ensures.planned)
    (asks (g.S.Standings.planned c.args.self.now.0) c.args.self.now.1.events c.args.worker c.next.new.self.1.events
    c.next.result c.next.ensures.next c.next.ensures.out c.next.ensures.legal)

pub returns-clause-fixed : goal.returns-clause-fixed
returns-clause-fixed g c =
    with_plan _ _ _ _ c.next.ensures.planned
    (past_asked (g.S.Standings.planned c.args.self.now.0) c.args.self.now.1.events c.args.worker
    c.next.new.self.1.events c.next.result c.next.ensures.next c.next.ensures.out)
