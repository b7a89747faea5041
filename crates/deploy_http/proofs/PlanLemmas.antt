-- What heads ask.
use Rattle.std.proofs.Common.{◌≡◌, ℕ, Bool, true, false, List, length, Some, None, Result, Ok, Err, sym, ap}
use Rattle.std.proofs.Common.{◌∙◌, subst, IsUtf8, IfOk}
use Rattle.httparse.specs.Grammar.{RequestHead}
use Rattle.httparse.specs.Spans.{span_bytes}
use Rattle.http_heads.specs.Fields.{body_length, closes, fields_of, is_coded}
use Rattle.http_heads.specs.Fronts.{IsHead}
use Rattle.http_heads.specs.declared.front.Head.{Head}
use Rattle.http_heads.specs.declared.fields.BodyLength.{BodyLength}
use Rattle.http_heads.specs.declared.fields.BodyLength.TheVariants.{Absent, Bad, Bytes, TooLarge}
use Rattle.http_routes.specs.Targets.{target_of, Reads}
use Rattle.http_routes.specs.declared.target.Target.{Target}
use Rattle.http_routes.specs.declared.target.RouteFault.{RouteFault}
use Rattle.http_routes.specs.declared.target.RouteFault.TheVariants as why
use Rattle.http_requests.specs.Calls.{Called, called, call_of}
use Rattle.http_requests.specs.Verbs.{verb_of}
use Rattle.http_requests.specs.declared.verb.Verb.{Verb}
use Rattle.http_requests.specs.declared.verb.Verb.TheVariants.{Get, Put, Post, Delete, Other}
use Rattle.http_requests.specs.declared.call.Call.{Call}
use Rattle.deploy_http.specs.Plans.{planned, routed, form_fault, unless, length_by, call_on}
use Rattle.deploy_http.specs.Plans.{by_version, of_route, ◌>>=◌}
use Rattle.deploy_http.specs.Answers.{Gives, plan_seen}
use Rattle.deploy_http.specs.declared.plan.Plan.{Plan}
use Rattle.deploy_http.specs.declared.fault.HttpFault.{HttpFault}
use Rattle.deploy_http.specs.declared.fault.HttpFault.TheVariants.{BadRequest, HeadTooLarge, BodyTooLarge, NotFound}
use Rattle.deploy_http.specs.declared.fault.HttpFault.TheVariants.{MethodNotAllowed, MissingApiVersion, LengthRequired}
use Rattle.deploy_http.specs.declared.fault.HttpFault.TheVariants.{ReadFault, OutOfMemory}

-- what a head asks, by what is known of it
plan_is : (bytes : List ℕ) (head : Head) (h : RequestHead) → IsHead bytes head h
    → planned h ≡ unless (form_fault head.body head.fields) (routed head.coded head.body
    (verb_of (span_bytes bytes head.method)) (target_of (span_bytes bytes head.target)) head.close)
unfolding planned
plan_is bytes head h is =
    ap (λ m. unless (form_fault (body_length (fields_of h)) (length h.fields)) (routed (is_coded (fields_of h))
    (body_length (fields_of h)) (verb_of m) (target_of h.target) (closes h.minor (fields_of h)))) (sym is.method_is)
    ∙ ap (λ t. unless (form_fault (body_length (fields_of h)) (length h.fields)) (routed (is_coded (fields_of h))
    (body_length (fields_of h)) (verb_of (span_bytes bytes head.method)) (target_of t) (closes h.minor (fields_of h))))
    (sym is.target_is)
    ∙ ap (λ b. unless (form_fault b (length h.fields)) (routed (is_coded (fields_of h)) b
    (verb_of (span_bytes bytes head.method)) (target_of (span_bytes bytes head.target))
    (closes h.minor (fields_of h)))) (sym is.body_is)
    ∙ ap (λ n. unless (form_fault head.body n) (routed (is_coded (fields_of h)) head.body
    (verb_of (span_bytes bytes head.method)) (target_of (span_bytes bytes head.target))
    (closes h.minor (fields_of h)))) (sym is.fields_are)
    ∙ ap (λ c. unless (form_fault head.body head.fields) (routed c head.body (verb_of (span_bytes bytes head.method))
    (target_of (span_bytes bytes head.target)) (closes h.minor (fields_of h)))) (sym is.coded_is)
    ∙ ap (λ c. unless (form_fault head.body head.fields) (routed head.coded head.body
    (verb_of (span_bytes bytes head.method)) (target_of (span_bytes bytes head.target)) c)) (sym is.close_is)

-- a head that has not its form
pub plan_formless : (bytes : List ℕ) (head : Head) (h : RequestHead) (fault : HttpFault) → IsHead bytes head h
    → form_fault head.body head.fields ≡ Some fault → planned h ≡ Err fault
plan_formless bytes head h fault is e =
    plan_is bytes head h is
    ∙ ap (λ o. unless o (routed head.coded head.body (verb_of (span_bytes bytes head.method))
    (target_of (span_bytes bytes head.target)) head.close)) e

-- a head that has its form
pub plan_routed : (bytes : List ℕ) (head : Head) (h : RequestHead) → IsHead bytes head h
    → form_fault head.body head.fields ≡ None → planned h ≡ routed head.coded head.body
    (verb_of (span_bytes bytes head.method)) (target_of (span_bytes bytes head.target)) head.close
plan_routed bytes head h is e =
    plan_is bytes head h is
    ∙ ap (λ o. unless o (routed head.coded head.body (verb_of (span_bytes bytes head.method))
    (target_of (span_bytes bytes head.target)) head.close)) e

-- the target of a head is text
pub target_text : (bytes : List ℕ) (head : Head) (h : RequestHead) → IsHead bytes head h
    → IsUtf8 (span_bytes bytes head.target)
target_text bytes head h is =
    let P : List ℕ → Type 0 = IsUtf8 in
    subst P (sym is.target_is) is.reads.0.target_text

-- a refusal is given where it is what the definition has
pub gives_fault : {A B : Type 0} (view : A → B) (given : Result B HttpFault) (fault : HttpFault) → given ≡ Err fault
    → Gives view given (Err fault)
gives_fault view given BadRequest e = e
gives_fault view given HeadTooLarge e = e
gives_fault view given BodyTooLarge e = e
gives_fault view given NotFound e = e
gives_fault view given MethodNotAllowed e = e
gives_fault view given MissingApiVersion e = e
gives_fault view given LengthRequired e = e
gives_fault view given ReadFault e = e
gives_fault view given OutOfMemory e = tt

-- what is given stays given where the definition is written in another way
pub gives_same : {A B : Type 0} (view : A → B) (given other : Result B HttpFault) (r : Result A HttpFault)
    → given ≡ other → Gives view other r → Gives view given r
gives_same {A} {B} view given other r e h =
    let P : Result B HttpFault → Type 0 = λ g. Gives view g r in
    subst P (sym e) h

-- a head whose length is refused
pub routed_unsized : (coded : Bool) (given : BodyLength) (verb : Verb) (target : Result Target RouteFault)
    (close : Bool) (fault : HttpFault) → length_by coded given verb ≡ Err fault
    → routed coded given verb target close ≡ Err fault
routed_unsized coded given verb target close fault e =
    ap (λ r. r >>= (λ (body : ℕ). call_on target verb >>= (λ (call : Called).
    Ok (record { call = call; body = body; close = close })))) e

-- a head whose call is refused
routed_fault : (coded : Bool) (given : BodyLength) (verb : Verb) (target : Result Target RouteFault) (close : Bool)
    (body : ℕ) (fault : HttpFault) → length_by coded given verb ≡ Ok body → call_on target verb ≡ Err fault
    → routed coded given verb target close ≡ Err fault
routed_fault coded given verb target close body fault e f =
    ap (λ r. r >>= (λ (n : ℕ). call_on target verb >>= (λ (call : Called).
    Ok (record { call = call; body = n; close = close })))) e
    ∙ ap (λ r. r >>= (λ (call : Called). Ok (record { call = call; body = body; close = close }))) f

pub routed_refused : (coded : Bool) (given : BodyLength) (verb : Verb) (target : Result Target RouteFault)
    (close : Bool) (body : ℕ) (fault : HttpFault) → length_by coded given verb ≡ Ok body
    → Gives {A = Call} called (call_on target verb) (Err fault)
    → Gives {A = Plan} plan_seen (routed coded given verb target close) (Err fault)
routed_refused coded given verb target close body BadRequest e f =
    routed_fault coded given verb target close body BadRequest e f
routed_refused coded given verb target close body HeadTooLarge e f =
    routed_fault coded given verb target close body HeadTooLarge e f
routed_refused coded given verb target close body BodyTooLarge e f =
    routed_fault coded given verb target close body BodyTooLarge e f
routed_refused coded given verb target close body NotFound e f =
    routed_fault coded given verb target close body NotFound e f
routed_refused coded given verb target close body MethodNotAllowed e f =
    routed_fault coded given verb target close body MethodNotAllowed e f
routed_refused coded given verb target close body MissingApiVersion e f =
    routed_fault coded given verb target close body MissingApiVersion e f
routed_refused coded given verb target close body LengthRequired e f =
    routed_fault coded given verb target close body LengthRequired e f
routed_refused coded given verb target close body ReadFault e f =
    routed_fault coded given verb target close body ReadFault e f
routed_refused coded given verb target close body OutOfMemory e f = tt

-- a head that asks something
pub routed_asks : (coded : Bool) (given : BodyLength) (verb : Verb) (target : Result Target RouteFault) (close : Bool)
    (body : ℕ) (call : Called) → length_by coded given verb ≡ Ok body → call_on target verb ≡ Ok call
    → routed coded given verb target close ≡ Ok (record { call = call; body = body; close = close })
routed_asks coded given verb target close body call e f =
    ap (λ r. r >>= (λ (n : ℕ). call_on target verb >>= (λ (c : Called).
    Ok (record { call = c; body = n; close = close })))) e
    ∙ ap (λ r. r >>= (λ (c : Called). Ok (record { call = c; body = body; close = close }))) f

-- a length is refused for no read
pub length_unread : (coded : Bool) (given : BodyLength) (verb : Verb) → length_by coded given verb ≡ Err ReadFault → ⊥
length_unread true given verb e = cc
length_unread false Absent Get e = cc
length_unread false Absent Put e = cc
length_unread false Absent Post e = cc
length_unread false Absent Delete e = cc
length_unread false Absent Other e = cc
length_unread false (Bytes n) verb e = cc
length_unread false TooLarge verb e = cc
length_unread false Bad verb e = cc

-- a target without a route
pub call_refused : (given : Result Target RouteFault) (verb : Verb) (fault : RouteFault) → Reads given (Err fault)
    → Gives {A = Call} called (call_on given verb) (Err (of_route fault))
call_refused given verb why.BadSegment e = ap (λ g. call_on g verb) e
call_refused given verb why.NoRoute e = ap (λ g. call_on g verb) e
call_refused given verb why.OutOfMemory e = tt

-- a target with a route
pub call_found : (given : Result Target RouteFault) (target : Target) (verb : Verb) (r : Result Call HttpFault)
    → Reads given (Ok target) → Gives called (by_version (call_of target.route verb) target.versioned) r
    → Gives called (call_on given verb) r
call_found given target verb r e h =
    gives_same called (call_on given verb) (by_version (call_of target.route verb) target.versioned) r
    (ap (λ g. call_on g verb) e) h

pub route_unread : (fault : RouteFault) → of_route fault ≡ ReadFault → ⊥
route_unread why.BadSegment e = cc
route_unread why.NoRoute e = cc
route_unread why.OutOfMemory e = cc

-- what holds of each answer
pub ok_each : {A : Type 0} (r : Result A HttpFault) (P Q : A → Type 0) → ((a : A) → P a → Q a) → IfOk r P → IfOk r Q
ok_each (Ok a) P Q f h = f a h
ok_each (Err fault) P Q f h = tt
