use Rattle.std.proofs.Common.{◌≡◌, Err}
use Rattle.httparse.specs.Spans.{span_bytes}
use Rattle.http_routes.specs.Targets.{target_of}
use Rattle.http_requests.specs.Verbs.{verb_of}
use Rattle.deploy_http.specs.Answers.{plan_seen}
use Rattle.deploy_http.specs.Plans.{routed, length_by}
use Rattle.deploy_http.proofs.PlanLemmas.{gives_fault, routed_unsized}
use Rattle.deploy_http.proofs.plan.routed.Goals as goal

pub returns-in-Err-clause-plan : goal.returns-in-Err-clause-plan
returns-in-Err-clause-plan c =
    let head = c.args.head.now in
    let verb = verb_of (span_bytes c.args.bytes.now head.method) in
    let target = target_of (span_bytes c.args.bytes.now head.target) in
    let e : length_by head.coded head.body verb ≡ Err c.in-Err.fault = cc in
    gives_fault plan_seen (routed head.coded head.body verb target head.close) c.in-Err.fault
    (routed_unsized head.coded head.body verb target head.close c.in-Err.fault e)
