use Rattle.http_requests.specs.Calls.{called}
use Rattle.http_routes.specs.Targets.{target_of}
use Rattle.deploy_http.proofs.PlanLemmas.{routed_asks, routed_refused}
use Rattle.deploy_http.proofs.plan.routed_with.Goals as goal

pub returns-in-Ok-clause-plan : goal.returns-in-Ok-clause-plan
returns-in-Ok-clause-plan c =
    let head = c.args.head.now in
    routed_asks head.coded head.body c.args.verb (target_of c.args.target.now) head.close c.args.body
    (called c.in-Ok.call) c.requires.sized c.in-Ok.ensures.call

pub returns-in-Err-clause-plan : goal.returns-in-Err-clause-plan
returns-in-Err-clause-plan c =
    let head = c.args.head.now in
    routed_refused head.coded head.body c.args.verb (target_of c.args.target.now) head.close c.args.body
    c.in-Err.fault c.requires.sized c.in-Err.ensures.call
