use Rattle.std.proofs.Common.{Some, ap, sym}
use Rattle.http_requests.specs.Calls.{called, call_of}
use Rattle.deploy_http.specs.Plans.{by_version}
use Rattle.deploy_http.proofs.PlanLemmas.{gives_same}
use Rattle.deploy_http.proofs.plan.call_at.Goals as goal

pub returns-in-Some-clause-call : goal.returns-in-Some-clause-call
returns-in-Some-clause-call c =
    let versioned = c.args.target.versioned in
    gives_same called (by_version (call_of c.args.target.route c.args.verb) versioned)
    (by_version (Some (called c.in-Some.call)) versioned) c.by_version.result
    (ap (λ o. by_version o versioned) (sym c.in-Some.ensures)) c.by_version.ensures.call

pub returns-in-None-clause-call : goal.returns-in-None-clause-call
returns-in-None-clause-call c = ap (λ o. by_version o c.args.target.versioned) (sym c.in-None.ensures)
