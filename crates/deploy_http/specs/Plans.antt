-- What a head asks, in the order in which refusals decide.
use Rattle.std.specs.Prelude.{ℕ, Bool, length, nat_lt, Option, Some, None, Result, Ok, Err}
use Rattle.std.specs.Prelude.{if◌then◌else◌}
use Rattle.httparse.specs.Grammar.{RequestHead}
use Rattle.http_heads.specs.Fields.{body_length, closes, fields_of, is_coded}
use Rattle.http_heads.specs.declared.fields.BodyLength.{BodyLength}
use Rattle.http_heads.specs.declared.fields.BodyLength.TheVariants.{Absent, Bad, Bytes, TooLarge}
use Rattle.http_routes.specs.Targets.{target_of}
use Rattle.http_routes.specs.declared.target.Target.{Target}
use Rattle.http_routes.specs.declared.target.RouteFault.{RouteFault}
use Rattle.http_routes.specs.declared.target.RouteFault.TheVariants as route
use Rattle.http_requests.specs.Calls.{Called, call_of}
use Rattle.http_requests.specs.Verbs.{verb_of}
use Rattle.http_requests.specs.declared.verb.Verb.{Verb}
use Rattle.http_requests.specs.declared.verb.Verb.TheVariants.{Put, Post}
use Rattle.deploy_http.specs.declared.fault.HttpFault.{HttpFault}
use Rattle.deploy_http.specs.declared.fault.HttpFault.TheVariants.{BadRequest, HeadTooLarge, BodyTooLarge, NotFound}
use Rattle.deploy_http.specs.declared.fault.HttpFault.TheVariants.{MethodNotAllowed, MissingApiVersion, LengthRequired}
use Rattle.deploy_http.specs.declared.fault.HttpFault.TheVariants.{OutOfMemory}

infixl 10 ◌>>=◌
abbrev pub ◌>>=◌ : {A B : Type 0} → Result A HttpFault → (A → Result B HttpFault) → Result B HttpFault
(Ok a) >>= f = f a
(Err e) >>= f = Err e

-- what a head asks, how long its body is, and whether the connection is closed after it
pub record Planned : Type 0 where
  pub call : Called
  pub body : ℕ
  pub close : Bool

-- the length of a body whose length is not given: PUT and POST must give it
abbrev pub no_length : Verb → Result ℕ HttpFault
no_length Put = Err LengthRequired
no_length Post = Err LengthRequired
no_length _ = Ok 0

-- the length of the body
abbrev pub length_in : BodyLength → Verb → Result ℕ HttpFault
length_in Absent verb = no_length verb
length_in (Bytes count) verb = Ok count
length_in TooLarge verb = Err BodyTooLarge
length_in Bad verb = Err BadRequest

-- the length of the body, where it is sent as that many bytes
abbrev pub length_by : Bool → BodyLength → Verb → Result ℕ HttpFault
length_by coded body verb = if coded then Err LengthRequired else length_in body verb

-- the call, where the route has the method and the query has a version
abbrev pub by_version : Option Called → Bool → Result Called HttpFault
by_version None versioned = Err MethodNotAllowed
by_version (Some call) versioned = if versioned then Ok call else Err MissingApiVersion

-- why a target has no route
abbrev pub of_route : RouteFault → HttpFault
of_route route.BadSegment = BadRequest
of_route route.NoRoute = NotFound
of_route route.OutOfMemory = OutOfMemory

-- the call of a method on what a target says
abbrev pub call_on : Result Target RouteFault → Verb → Result Called HttpFault
call_on (Ok target) verb = by_version (call_of target.route verb) target.versioned
call_on (Err fault) verb = Err (of_route fault)

-- what is wrong with this number of fields
abbrev pub fields_fault : ℕ → Option HttpFault
fields_fault fields = if nat_lt 64 fields then Some HeadTooLarge else None

-- what is wrong with the form of a head: the length is no number, or there are too many fields
abbrev pub form_fault : BodyLength → ℕ → Option HttpFault
form_fault Absent fields = fields_fault fields
form_fault (Bytes count) fields = fields_fault fields
form_fault TooLarge fields = fields_fault fields
form_fault Bad fields = Some BadRequest

-- what a head asks that has its form: the length of the body is decided first, then the call
abbrev pub routed : Bool → BodyLength → Verb → Result Target RouteFault → Bool → Result Planned HttpFault
routed coded given verb target close = do
  body ← length_by coded given verb
  call ← call_on target verb
  Ok (record { call = call; body = body; close = close })

abbrev pub unless : Option HttpFault → Result Planned HttpFault → Result Planned HttpFault
unless (Some fault) otherwise = Err fault
unless None otherwise = otherwise

-- what a head asks
unfoldable pub planned : RequestHead → Result Planned HttpFault
planned h =
    unless (form_fault (body_length (fields_of h)) (length h.fields))
    (routed (is_coded (fields_of h)) (body_length (fields_of h)) (verb_of h.method) (target_of h.target)
    (closes h.minor (fields_of h)))
