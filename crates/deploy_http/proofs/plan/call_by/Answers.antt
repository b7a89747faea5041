use Rattle.std.proofs.Common.{◌≡◌, ◌∙◌, sym}
use Rattle.http_routes.specs.Targets.{target_of}
use Rattle.deploy_http.specs.declared.fault.HttpFault.TheVariants.{ReadFault}
use Rattle.deploy_http.specs.Answers.{Gives}
use Rattle.deploy_http.specs.Plans.{call_on}
use Rattle.deploy_http.specs.declared.fault.HttpFault.{HttpFault}
use Rattle.http_requests.specs.Calls.{called}
use Rattle.http_requests.specs.declared.call.Call.{Call}
use Rattle.std.proofs.Common.{Err, subst}
use Rattle.deploy_http.proofs.PlanLemmas.{call_found, call_refused, route_unread}
use Rattle.deploy_http.proofs.plan.call_by.Goals as goal

pub returns-in-Ok-clause-call : goal.returns-in-Ok-clause-call
returns-in-Ok-clause-call c =
    call_found (target_of c.args.target.now) c.in-Ok.target c.args.verb c.call_at.result c.in-Ok.ensures
    c.call_at.ensures.call

pub returns-in-Err-clause-call : goal.returns-in-Err-clause-call
returns-in-Err-clause-call c =
    let given = target_of c.args.target.now in
    let P : HttpFault → Type 0 = λ f. Gives {A = Call} called (call_on given c.args.verb) (Err f) in
    subst P (sym c.of_route.ensures) (call_refused given c.args.verb c.in-Err.fault c.in-Err.ensures)

pub returns-in-Err-clause-unread : goal.returns-in-Err-clause-unread
returns-in-Err-clause-unread c e =
    let d : c.of_route.result ≡ ReadFault = cc in
    route_unread c.in-Err.fault (sym c.of_route.ensures ∙ d)
