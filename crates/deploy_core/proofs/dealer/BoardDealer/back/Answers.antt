use Rattle.std.proofs.Common.{[], ◌∷◌, refl, ap, ◌∙◌}
use Rattle.deploy_histories.specs.Events as event
use Rattle.deploy_core.specs.Steps.{steps_of, until_crash}
use Rattle.deploy_core.proofs.PastLemmas.{past_same, with_plan}
use Rattle.deploy_core.proofs.StepLemmas.{is_begun_by, steps_more}
use Rattle.deploy_core.proofs.dealer.BoardDealer.back.Goals as goal

pub back-requires : goal.back-requires
back-requires g c =
    is_begun_by (g.S.Standings.planned c.args.self.now.0) c.args.self.now.1.events c.history.ensures.legal c.args.task
    c.requires

pub returns-clause-steps : goal.returns-clause-steps
returns-clause-steps g c =
    ap (λ b. steps_of (g.S.Standings.planned b.0) b.1.events) c.back.ensures
    ∙ steps_more (g.S.Standings.planned c.args.self.now.0) c.args.self.now.1.events (event.back c.args.task)

pub returns-clause-fixed : goal.returns-clause-fixed
returns-clause-fixed g c =
    with_plan _ _ _ _ (ap (λ b. g.S.Standings.planned b.0) c.back.ensures)
    (ap (λ b. until_crash b.1.events) c.back.ensures
    ∙ past_same c.args.self.now.1.events (event.back c.args.task ∷ []) refl)
