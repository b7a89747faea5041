-- Inputs that go on while they are read.
use Rattle.std.proofs.Common.{◌≡◌, ℕ, ◌+◌, ◌-◌, ◌<◌, ◌≤◌, Bool, true, List, [], ◌++◌, length, take, drop}
use Rattle.std.proofs.Common.{Option, Some, None, Result, Ok, Err, refl, sym, ap, ◌∙◌, ◌⊎◌, inl, inr, arith, subst}
use Rattle.std.proofs.Common.{IfNone, IfOk, append_assoc, append-nil, length-append, length-drop}
use Rattle.std.proofs.lemmas.Bool.{cases_lt}
use Rattle.std.proofs.lemmas.List.{drop-append-le, drop-drop, length-take, take-append-drop}
use Rattle.httparse.proofs.GrammarLemmas.{ReadsRequest-append}
use Rattle.http_requests.specs.Asks.{asked}
use Rattle.http_requests.specs.Bodies.{Finishes}
use Rattle.http_requests.specs.Calls.{called}
use Rattle.http_requests.specs.declared.ask.Ask.{Ask}
use Rattle.http_requests.specs.declared.fault.BodyFault.{BodyFault}
use Rattle.http_requests.specs.declared.fault.BodyFault.TheVariants as why
use Rattle.deploy_http.specs.Requests.{BeginsWith, EndsInBody, Spells, by_body}
use Rattle.deploy_http.specs.Requests.{IsRequest, Refuses}
use Rattle.deploy_http.specs.Answers.{Begins, Fits, HasPlan, Looks, LooksDue, PlansInput, PlansLast}
use Rattle.deploy_http.specs.Answers.{RefusesFront, of_body, plan_seen}
use Rattle.deploy_http.specs.declared.front.Look.{Look}
use Rattle.deploy_http.specs.declared.front.Look.TheVariants.{Found, NotYet, Refused}
use Rattle.deploy_http.specs.declared.plan.Plan.{Plan}
use Rattle.deploy_http.specs.declared.request.Request.{Request}
use Rattle.deploy_http.specs.declared.fault.HttpFault.{HttpFault}
use Rattle.deploy_http.specs.declared.fault.HttpFault.TheVariants.{BadRequest, HeadTooLarge, BodyTooLarge, NotFound}
use Rattle.deploy_http.specs.declared.fault.HttpFault.TheVariants.{MethodNotAllowed, MissingApiVersion, LengthRequired}
use Rattle.deploy_http.specs.declared.fault.HttpFault.TheVariants.{ReadFault, OutOfMemory}
use Rattle.deploy_http.specs.Faults.{ReadCause}
use Rattle.arm_edges.specs.Faults.{Rose}
use Rattle.deploy_http.proofs.InputLemmas.{front_refuses}

-- bytes that were taken, at the end of those that were there
pub moved_on : (old new before after piece : List ℕ) → before ≡ piece ++ after → new ≡ old ++ piece
    → old ++ before ≡ new ++ after
moved_on old new before after piece e d =
    ap (λ r. old ++ r) e ∙ sym (append_assoc old piece after) ∙ ap (λ b. b ++ after) (sym d)

pub begins_more : (old middle new : List ℕ) → Begins old middle → Begins middle new → Begins old new
begins_more old middle new (x, e) (y, d) =
    (x ++ y, d ∙ ap (λ b. b ++ y) e ∙ append_assoc old x y)

pub begins_same : (bytes : List ℕ) → Begins bytes bytes
begins_same bytes = ([], sym (append-nil bytes))

-- a look that was due
pub look_due : (due : Bool) (bytes : List ℕ) (l : Look) → Looks bytes l → LooksDue due bytes l
look_due due bytes (Found plan) h = h
look_due due bytes NotYet h = λ e. h.1
look_due due bytes (Refused fault) h = h

-- what bytes that may go on are refused for is no failed read
pub front_unread : (bytes : List ℕ) (fault : HttpFault) → RefusesFront bytes fault → fault ≡ ReadFault → ⊥
front_unread bytes fault h e = let P : HttpFault → Type 0 = RefusesFront bytes in subst P e h

-- a head that is not there yet leaves room
pub room_left : (now : Bool) (bytes : List ℕ) → (16384 ≤ length bytes → now ≡ true)
    → (now ≡ true → length bytes < 16384) → length bytes < 16384
room_left now bytes due few = by (cases_lt (length bytes) 16384)
  where
    by : (length bytes < 16384) ⊎ (16384 ≤ length bytes) → length bytes < 16384
    by (inl l) = l
    by (inr l) = few (due l)

-- what is refused at the front of what there is, and what is still to come
pub input_refused : (input bytes coming : List ℕ) (fault : HttpFault) → input ≡ bytes ++ coming
    → RefusesFront bytes fault → Refuses input fault coming
input_refused input bytes coming fault e h =
    let P : List ℕ → Type 0 = λ i. Refuses i fault coming in
    subst P (sym e) (front_refuses bytes coming fault h)

last_refusal : (input bytes coming : List ℕ) (fault : HttpFault) → input ≡ bytes ++ coming → coming ≡ []
    → Refuses bytes fault [] → Refuses input fault coming
last_refusal input bytes coming fault e c h =
    let P : List ℕ → Type 0 = λ x. Refuses bytes fault x in
    let Q : List ℕ → Type 0 = λ i. Refuses i fault coming in
    let whole : bytes ≡ input = sym (e ∙ ap (λ x. bytes ++ x) c ∙ append-nil bytes) in
    subst Q whole (subst P (sym c) h)

-- the last look is at all of the input
pub last_input : (input bytes coming : List ℕ) (r : Result (Option Plan) HttpFault) → input ≡ bytes ++ coming
    → coming ≡ [] → PlansLast bytes r → PlansInput input r bytes coming
last_input input bytes coming (Ok (Some plan)) e c h = (e, tt)
last_input input bytes coming (Ok None) e c h =
    (e, ap (λ b. b ++ coming) h ∙ c)
last_input input bytes coming (Err fault) e c h = last_refusal input bytes coming fault e c h

pub last_fits : (bytes : List ℕ) (r : Result (Option Plan) HttpFault) → PlansLast bytes r → Fits bytes r
last_fits bytes (Ok (Some plan)) h = h
last_fits bytes (Ok None) h = tt
last_fits bytes (Err fault) h = tt

-- a claim on what is there where there is no plan
pub none_more : {A B : Type 0} (o : Option Plan) → (A → B) → IfNone o A → IfNone o B
none_more (Some plan) f h = tt
none_more None f h = f h

pub ok_more : (r : Result Request HttpFault) (P Q : Type 0) → (P → Q) → IfOk r (λ x. P) → IfOk r (λ x. Q)
ok_more (Ok request) P Q f h = f h
ok_more (Err fault) P Q f h = tt

pub some_more : (r : Result (Option Request) HttpFault) (P Q : Type 0) → (P → Q) → IfOk r (λ x. P)
    → IfOk r (λ x. Q)
some_more (Ok request) P Q f h = f h
some_more (Err fault) P Q f h = tt

-- the head of a plan, with more bytes after it
begins_further : (bytes more : List ℕ) (plan : Plan) (p : HasPlan bytes plan)
    → BeginsWith (bytes ++ more) p.head (drop plan.head bytes ++ more)
begins_further bytes more plan p = record {
  reads = ReadsRequest-append bytes p.head (drop plan.head bytes) more p.begins.reads;
  short = p.begins.short;
}

pub plan_further : (bytes longer : List ℕ) (plan : Plan) → Begins bytes longer → HasPlan bytes plan
    → HasPlan longer plan
plan_further bytes longer plan (more, e) p =
    let P : List ℕ → Type 0 = λ b. HasPlan b plan in
    let Q : List ℕ → Type 0 = λ b. BeginsWith (bytes ++ more) p.head b in
    subst P (sym e) (record {
      head = p.head;
      begins = subst Q (sym (drop-append-le plan.head bytes more p.fits)) (begins_further bytes more plan p);
      length_is = p.length_is;
      fits = omega (arith, p.fits, length-append bytes more);
      small = p.small;
      asks = p.asks;
    })

-- an input that ends inside a body
pub body_ends : (bytes more input : List ℕ) (plan : Plan) → HasPlan bytes plan → input ≡ bytes ++ more
    → length input < plan.head + plan.body → EndsInBody input
body_ends bytes more input plan p e few =
    let P : List ℕ → Type 0 = EndsInBody in
    subst P (sym e) (record {
      head = p.head;
      after = drop plan.head bytes ++ more;
      begins = begins_further bytes more plan p;
      plan = plan_seen plan;
      is_plan = p.asks;
      few = omega (
        arith,
        few,
        ap length e,
        p.fits,
        length-append bytes more,
        length-append (drop plan.head bytes) more,
        length-drop plan.head bytes,
      );
    })

-- a head with its body
pub plan_spells : (bytes piece left coming : List ℕ) (plan : Plan) → HasPlan bytes plan
    → drop plan.head bytes ≡ piece ++ left → length piece ≡ plan.body
    → Spells (bytes ++ coming) (called plan.call) piece plan.close (left ++ coming)
plan_spells bytes piece left coming plan p e count =
    let P : List ℕ → Type 0 = λ b. BeginsWith (bytes ++ coming) p.head b in
    let after : drop plan.head bytes ++ coming ≡ piece ++ (left ++ coming) =
    ap (λ b. b ++ coming) e ∙ append_assoc piece left coming in
    record {
      head = p.head;
      begins = subst P after (begins_further bytes coming plan p);
      asks = p.asks ∙ ap (λ n. Ok (record { call = called plan.call; body = n; close = plan.close })) (sym count);
    }

-- what the body asks is what the input asks
pub finished_asks : (input piece left : List ℕ) (plan : Plan) (ask : Ask) → Finishes (called plan.call) piece (Ok ask)
    → Spells input (called plan.call) piece plan.close left
    → IsRequest input (record { what = asked ask; close = plan.close }) left
finished_asks input piece left plan ask h spells =
    record { call = called plan.call; body = piece; spells = spells; asks = h }

-- and what it is refused for is what the input is refused for
pub finished_refuses : (input piece left coming : List ℕ) (plan : Plan) (fault : BodyFault)
    → Finishes (called plan.call) piece (Err fault) → Spells input (called plan.call) piece plan.close left
    → Refuses input (of_body fault) coming
finished_refuses input piece left coming plan why.BadBody h spells =
    by_body refl (record {
      call = called plan.call;
      body = piece;
      close = plan.close;
      left = left;
      spells = spells;
      bad = h;
    })
finished_refuses input piece left coming plan why.OutOfMemory h spells = tt

pub body_unread : (fault : BodyFault) → of_body fault ≡ ReadFault → ⊥
body_unread why.BadBody e = cc
body_unread why.OutOfMemory e = cc

-- an answer that is no failed read leaves the count of faults
pub calm_fault : (A : Type 0) (before now : ℕ) (fault : HttpFault) → (fault ≡ ReadFault → ⊥) → now ≡ before
    → ReadCause {A = A} before now (Err fault)
calm_fault A before now BadRequest other e = e
calm_fault A before now HeadTooLarge other e = e
calm_fault A before now BodyTooLarge other e = e
calm_fault A before now NotFound other e = e
calm_fault A before now MethodNotAllowed other e = e
calm_fault A before now MissingApiVersion other e = e
calm_fault A before now LengthRequired other e = e
calm_fault A before now ReadFault other e = absurd (other refl)
calm_fault A before now OutOfMemory other e = e

pub calm : {A : Type 0} (before now : ℕ) (r : Result A HttpFault) → (r ≡ Err ReadFault → ⊥) → now ≡ before
    → ReadCause before now r
calm before now (Ok a) other e = e
calm {A} before now (Err fault) other e =
    let failed : fault ≡ ReadFault → ⊥ = λ d. other (ap (λ (f : HttpFault). Err f) d) in
    calm_fault A before now fault failed e

-- the same fault of an answer of another kind, by the same count before
pub cause_of : (A B : Type 0) (before start now : ℕ) (fault : HttpFault) → start ≡ before
    → ReadCause {A = A} start now (Err fault) → ReadCause {A = B} before now (Err fault)
cause_of A B before start now BadRequest e h = h ∙ e
cause_of A B before start now HeadTooLarge e h = h ∙ e
cause_of A B before start now BodyTooLarge e h = h ∙ e
cause_of A B before start now NotFound e h = h ∙ e
cause_of A B before start now MethodNotAllowed e h = h ∙ e
cause_of A B before start now MissingApiVersion e h = h ∙ e
cause_of A B before start now LengthRequired e h = h ∙ e
cause_of A B before start now ReadFault e h = let P : ℕ → Type 0 = λ n. Rose n now in subst P e h
cause_of A B before start now OutOfMemory e h = h ∙ e

-- the piece after the head that is the body
split : (bytes : List ℕ) (head body : ℕ) → drop head bytes ≡ take (head + body - head) (drop head bytes)
    ++ drop (head + body) bytes
split bytes head body =
    let n = head + body - head in
    let same : head + n ≡ head + body = omega arith in
    sym (take-append-drop n (drop head bytes))
    ∙ ap (λ r. take n (drop head bytes) ++ r) (drop-drop n head bytes ∙ ap (λ m. drop m bytes) same)

-- a head and its body ask what the input asks
pub finished_request : (bytes coming : List ℕ) (plan : Plan) (ask : Ask) → HasPlan bytes plan
    → plan.head + plan.body ≤ length bytes
    → Finishes (called plan.call) (take (plan.head + plan.body - plan.head) (drop plan.head bytes)) (Ok ask)
    → IsRequest (bytes ++ coming) (record { what = asked ask; close = plan.close })
    (drop (plan.head + plan.body) bytes ++ coming)
finished_request bytes coming plan ask p whole h =
    let n = plan.head + plan.body - plan.head in
    let count : length (take n (drop plan.head bytes)) ≡ plan.body =
    omega (arith, whole, length-take n (drop plan.head bytes), length-drop plan.head bytes) in
    finished_asks (bytes ++ coming) (take n (drop plan.head bytes)) (drop (plan.head + plan.body) bytes ++ coming) plan
    ask h
    (plan_spells bytes (take n (drop plan.head bytes)) (drop (plan.head + plan.body) bytes) coming plan p
    (split bytes plan.head plan.body) count)

pub finished_refusal : (bytes coming : List ℕ) (plan : Plan) (fault : BodyFault) → HasPlan bytes plan
    → plan.head + plan.body ≤ length bytes
    → Finishes (called plan.call) (take (plan.head + plan.body - plan.head) (drop plan.head bytes)) (Err fault)
    → Refuses (bytes ++ coming) (of_body fault) coming
finished_refusal bytes coming plan fault p whole h =
    let n = plan.head + plan.body - plan.head in
    let count : length (take n (drop plan.head bytes)) ≡ plan.body =
    omega (arith, whole, length-take n (drop plan.head bytes), length-drop plan.head bytes) in
    finished_refuses (bytes ++ coming) (take n (drop plan.head bytes)) (drop (plan.head + plan.body) bytes ++ coming)
    coming plan fault h
    (plan_spells bytes (take n (drop plan.head bytes)) (drop (plan.head + plan.body) bytes) coming plan p
    (split bytes plan.head plan.body) count)
