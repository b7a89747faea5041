use Rattle.plan_outcomes.proofs.laws.accepted_plans_have_histories.Goals as goal

pub returns : goal.returns
returns c = λ p held a.
    c.plans_have_histories.ensures p held a.is_planned a.own_keys.resources_differ a.own_keys.deployments_differ
