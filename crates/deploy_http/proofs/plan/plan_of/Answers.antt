use Rattle.std.proofs.Common.{◌≡◌, Ok, sym}
use Rattle.httparse.specs.Spans.{span_bytes}
use Rattle.http_heads.specs.Fields.{fields_of}
use Rattle.http_routes.specs.Targets.{target_of}
use Rattle.http_requests.specs.Verbs.{verb_of}
use Rattle.deploy_http.specs.Answers.{plan_seen}
use Rattle.deploy_http.specs.Plans.{planned, routed, length_by}
use Rattle.deploy_http.proofs.PlanLemmas.{plan_formless, plan_routed, target_text, gives_fault, gives_same, ok_each}
use Rattle.deploy_http.proofs.SmallLemmas.{body_small}
use Rattle.deploy_http.proofs.plan.plan_of.Goals as goal

pub returns-in-Some-clause-plan : goal.returns-in-Some-clause-plan
returns-in-Some-clause-plan c h is =
    gives_fault plan_seen (planned h) c.in-Some.fault
    (plan_formless c.args.bytes.now c.args.head.now h c.in-Some.fault is (sym c.in-Some.ensures.form))

pub routed-requires-clause-text : goal.routed-requires-clause-text
routed-requires-clause-text c = target_text c.args.bytes.now c.args.head.now c.requires.0 c.requires.1

pub returns-in-None-clause-plan : goal.returns-in-None-clause-plan
returns-in-None-clause-plan c h is =
    let head = c.args.head.now in
    let bytes = c.args.bytes.now in
    gives_same plan_seen (planned h) (routed head.coded head.body (verb_of (span_bytes bytes head.method))
    (target_of (span_bytes bytes head.target)) head.close) c.routed.result
    (plan_routed bytes head h is (sym c.in-None.ensures.form)) c.routed.ensures.plan

pub returns-in-None-clause-small : goal.returns-in-None-clause-small
returns-in-None-clause-small c =
    let head = c.args.head.now in
    let verb = verb_of (span_bytes c.args.bytes.now head.method) in
    ok_each c.routed.result (λ plan. length_by head.coded head.body verb ≡ Ok plan.body) _
    (λ plan e. body_small (fields_of c.requires.0) head.coded head.body verb plan.body c.requires.1.body_is e)
    c.routed.ensures.body
