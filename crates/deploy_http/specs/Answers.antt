-- What the parts of the reader answer.
use Rattle.std.specs.Prelude.{◌≡◌, ℕ, ◌<◌, ◌≤◌, Bool, true, List, [], ◌++◌, length, drop, Option, Some, None, Result}
use Rattle.std.specs.Prelude.{Ok}
use Rattle.std.specs.Prelude.{Err, IfSome, IfNone}
use Rattle.httparse.specs.Grammar.{RequestHead, print_request}
use Rattle.http_heads.specs.Fronts.{IsUnfinished}
use Rattle.http_requests.specs.Calls.{called}
use Rattle.http_requests.specs.declared.fault.BodyFault.{BodyFault}
use Rattle.http_requests.specs.declared.fault.BodyFault.TheVariants as why
use Rattle.deploy_http.specs.Plans.{Planned, planned}
use Rattle.deploy_http.specs.Requests.{window, BeginsWith, IsHeadRefused, IsRequest, Refuses, requested}
use Rattle.deploy_http.specs.declared.front.Look.{Look}
use Rattle.deploy_http.specs.declared.front.Look.TheVariants.{Found, NotYet, Refused}
use Rattle.deploy_http.specs.declared.plan.Plan.{Plan}
use Rattle.deploy_http.specs.declared.request.Request.{Request}
use Rattle.deploy_http.specs.declared.fault.HttpFault.{HttpFault}
use Rattle.deploy_http.specs.declared.fault.HttpFault.TheVariants.{BadRequest, ReadFault, OutOfMemory}

-- the bytes are still at the front
abbrev pub Begins : List ℕ → List ℕ → Type 0
Begins bytes longer = (more : List ℕ) × (longer ≡ bytes ++ more)

-- what is answered, seen by a view, where the definition gives this, unless memory runs out
abbrev pub Gives : {A B : Type 0} → (A → B) → Result B HttpFault → Result A HttpFault → Type 0
Gives view given (Ok a) = given ≡ Ok (view a)
Gives view given (Err OutOfMemory) = Unit {0}
Gives view given (Err fault) = given ≡ Err fault

-- what a plan says
abbrev pub plan_seen : Plan → Planned
plan_seen plan = record { call = called plan.call; body = plan.body; close = plan.close }

-- the bytes begin with the head of this plan
pub record HasPlan (bytes : List ℕ) (plan : Plan) : Type 0 where
  pub head : RequestHead
  pub begins : BeginsWith bytes head (drop plan.head bytes)
  pub length_is : plan.head ≡ length (print_request head)
  pub fits : plan.head ≤ length bytes
  pub small : plan.body ≤ 4194304
  pub asks : planned head ≡ Ok (plan_seen plan)

-- what a refusal says of bytes that may go on
abbrev pub RefusesFront : List ℕ → HttpFault → Type 0
RefusesFront bytes ReadFault = ⊥
RefusesFront bytes OutOfMemory = Unit {0}
RefusesFront bytes fault = (more : List ℕ) → IsHeadRefused (bytes ++ more) fault

-- what a look at bytes that may go on finds
abbrev pub Looks : List ℕ → Look → Type 0
Looks bytes (Found plan) = HasPlan bytes plan
Looks bytes NotYet = IsUnfinished (window bytes) × (length bytes < 16384)
Looks bytes (Refused fault) = RefusesFront bytes fault

-- the same, where the bytes are looked at only if that is due
abbrev pub LooksDue : Bool → List ℕ → Look → Type 0
LooksDue due bytes (Found plan) = HasPlan bytes plan
LooksDue due bytes NotYet = due ≡ true → length bytes < 16384
LooksDue due bytes (Refused fault) = RefusesFront bytes fault

-- what is answered to bytes with which the input ends
abbrev pub PlansLast : List ℕ → Result (Option Plan) HttpFault → Type 0
PlansLast bytes (Ok (Some plan)) = HasPlan bytes plan
PlansLast bytes (Ok None) = bytes ≡ []
PlansLast bytes (Err fault) = Refuses bytes fault []

-- what is answered to an input, of which these bytes are there and those are yet to come
abbrev pub PlansInput : List ℕ → Result (Option Plan) HttpFault → List ℕ → List ℕ → Type 0
PlansInput input (Ok plan) bytes coming = (input ≡ bytes ++ coming) × IfNone plan (bytes ++ coming ≡ [])
PlansInput input (Err fault) bytes coming = Refuses input fault coming

-- the bytes begin with the head of the plan that is answered
abbrev pub Fits : List ℕ → Result (Option Plan) HttpFault → Type 0
Fits bytes (Ok plan) = IfSome plan (HasPlan bytes)
Fits bytes (Err fault) = Unit {0}

-- what is answered to an input that begins with a head, what is left of it, and what of that is yet to come
abbrev pub Answers : List ℕ → Result Request HttpFault → List ℕ → List ℕ → Type 0
Answers input (Ok request) left coming = IsRequest input (requested request) left
Answers input (Err fault) left coming = Refuses input fault coming

-- how a body is refused
abbrev pub of_body : BodyFault → HttpFault
of_body why.BadBody = BadRequest
of_body why.OutOfMemory = OutOfMemory
