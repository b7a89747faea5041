use Rattle.plan_boards.proofs.opening.first_standings.Goals as goal

pub new-requires-clause-planned : goal.new-requires-clause-planned
new-requires-clause-planned c = c.requires.accepted.is_planned

pub new-requires-clause-histories : goal.new-requires-clause-histories
new-requires-clause-histories c =
    let a = c.requires.accepted in
    c.plans_have_histories.ensures c.args.plan.now c.args.held.now a.is_planned a.own_keys.resources_differ
    a.own_keys.deployments_differ
