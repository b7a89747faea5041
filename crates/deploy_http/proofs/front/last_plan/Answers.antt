use Rattle.deploy_http.proofs.InputLemmas.{last_refuses}
use Rattle.deploy_http.proofs.front.last_plan.Goals as goal

pub returns-in-Refused-clause-plan : goal.returns-in-Refused-clause-plan
returns-in-Refused-clause-plan c = last_refuses c.args.bytes.now c.in-Refused.fault c.in-Refused.ensures
