use Rattle.std.proofs.Common.{[], ◌∷◌, refl, ap, ◌∙◌}
use Rattle.deploy_histories.specs.Events as event
use Rattle.deploy_core.specs.Steps.{steps_of, until_crash}
use Rattle.deploy_core.proofs.PastLemmas.{past_same, with_plan}
use Rattle.deploy_core.proofs.StepLemmas.{may_end_by, steps_more}
use Rattle.deploy_core.proofs.dealer.BoardDealer.answer.Goals as goal

pub answer-requires : goal.answer-requires
answer-requires g c =
    may_end_by (g.S.Standings.planned c.args.self.now.0) c.args.self.now.1.events c.history.ensures.legal c.args.task
    c.args.answer c.requires

pub returns-clause-steps : goal.returns-clause-steps
returns-clause-steps g c =
    ap (λ b. steps_of (g.S.Standings.planned b.0) b.1.events) c.answer.ensures
    ∙ steps_more (g.S.Standings.planned c.args.self.now.0) c.args.self.now.1.events
    (event.answer c.args.task c.args.answer)

pub returns-clause-fixed : goal.returns-clause-fixed
returns-clause-fixed g c =
    with_plan _ _ _ _ (ap (λ b. g.S.Standings.planned b.0) c.answer.ensures)
    (ap (λ b. until_crash b.1.events) c.answer.ensures
    ∙ past_same c.args.self.now.1.events (event.answer c.args.task c.args.answer ∷ []) refl)
