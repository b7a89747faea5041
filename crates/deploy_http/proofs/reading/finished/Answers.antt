use Rattle.std.proofs.Common.{ℕ, ◌+◌, ◌-◌, List, ◌++◌, take, drop, Ok, Err, sym, subst}
use Rattle.http_requests.specs.Asks.{asked}
use Rattle.http_requests.specs.Bodies.{Finishes}
use Rattle.http_requests.specs.Calls.{called}
use Rattle.deploy_http.specs.Requests.{IsRequest, Refuses}
use Rattle.deploy_http.specs.declared.fault.HttpFault.{HttpFault}
use Rattle.deploy_http.proofs.ReadingLemmas.{finished_request, finished_refusal}
use Rattle.deploy_http.proofs.reading.finished.Goals as goal

pub returns-in-Ok-clause-answer : goal.returns-in-Ok-clause-answer
returns-in-Ok-clause-answer c coming =
    let plan = c.args.plan in
    let bytes = c.args.rest.now in
    let P : List ℕ → Type 0 = λ s. Finishes (called plan.call)
    (take (plan.head + plan.body - plan.head) (drop plan.head s)) (Ok c.in-Ok.ask) in
    let Q : List ℕ → Type 0 = λ l. IsRequest (bytes ++ coming)
    (record { what = asked c.in-Ok.ask; close = plan.close }) (l ++ coming) in
    subst Q (sym c.remove_front.ensures)
    (finished_request bytes coming plan c.in-Ok.ask c.requires.plan c.requires.whole
    (subst P c.as_slice.ensures c.in-Ok.ensures))

pub returns-in-Err-clause-answer : goal.returns-in-Err-clause-answer
returns-in-Err-clause-answer c coming =
    let plan = c.args.plan in
    let bytes = c.args.rest.now in
    let P : List ℕ → Type 0 = λ s. Finishes (called plan.call)
    (take (plan.head + plan.body - plan.head) (drop plan.head s)) (Err c.in-Err.fault) in
    let Q : HttpFault → Type 0 = λ f. Refuses (bytes ++ coming) f coming in
    subst Q (sym c.of_body.ensures)
    (finished_refusal bytes coming plan c.in-Err.fault c.requires.plan c.requires.whole
    (subst P c.as_slice.ensures c.in-Err.ensures))
