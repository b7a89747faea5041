-- Which request an input begins with, or why it is refused, by the bytes alone.
use Rattle.std.specs.Prelude.{◌≡◌, ℕ, ◌<◌, ◌≤◌, Bool, List, [], ◌++◌, length, take, ◌⊎◌, Option, Some, None, Result, Ok}
use Rattle.std.specs.Prelude.{Err}
use Rattle.httparse.specs.Grammar.{RequestHead, print_request, ReadsRequest}
use Rattle.http_heads.specs.Fronts.{IsHopeless, IsUnfinished}
use Rattle.http_requests.specs.Asks.{Asked, asked}
use Rattle.http_requests.specs.Bodies.{IsAsk, IsBadBody}
use Rattle.http_requests.specs.Calls.{Called}
use Rattle.deploy_http.specs.Plans.{Planned, planned}
use Rattle.deploy_http.specs.declared.request.Request.{Request}
use Rattle.deploy_http.specs.declared.fault.HttpFault.{HttpFault}
use Rattle.deploy_http.specs.declared.fault.HttpFault.TheVariants.{BadRequest, HeadTooLarge, ReadFault, OutOfMemory}

-- the bytes of an input in which a head must end
abbrev pub window : List ℕ → List ℕ
window input = take 16384 input

-- the input begins with this head, which ends within the window, and these bytes follow it
pub record BeginsWith (input : List ℕ) (h : RequestHead) (after : List ℕ) : Type 0 where
  pub reads : ReadsRequest input h after
  pub short : length (print_request h) ≤ 16384

-- why the head of an input is refused: no head can begin there; none ends within the window; what it asks is refused
pub data IsHeadRefused (input : List ℕ) (fault : HttpFault) : Type 0 where
  hopeless : fault ≡ BadRequest → IsHopeless (window input) → IsHeadRefused input fault
  too_large : fault ≡ HeadTooLarge → 16384 ≤ length input → IsUnfinished (window input) → IsHeadRefused input fault
  asks_nothing : (h : RequestHead) → (after : List ℕ) → BeginsWith input h after → planned h ≡ Err fault
      → IsHeadRefused input fault

-- the input ends inside a head
pub record EndsInHead (input : List ℕ) : Type 0 where
  pub some : 0 < length input
  pub few : length input < 16384
  pub unfinished : IsUnfinished (window input)

-- the input ends inside a body
pub record EndsInBody (input : List ℕ) : Type 0 where
  pub head : RequestHead
  pub after : List ℕ
  pub begins : BeginsWith input head after
  pub plan : Planned
  pub is_plan : planned head ≡ Ok plan
  pub few : length after < plan.body

-- the input ends inside a request
abbrev pub EndsEarly : List ℕ → Type 0
EndsEarly input = EndsInHead input ⊎ EndsInBody input

-- the input begins with a head that asks this, and with its body
pub record Spells (input : List ℕ) (call : Called) (body : List ℕ) (close : Bool) (left : List ℕ) : Type 0 where
  pub head : RequestHead
  pub begins : BeginsWith input head (body ++ left)
  pub asks : planned head ≡ Ok (record { call = call; body = length body; close = close })

-- the input begins with a head and a body that has not its form
pub record HasBadBody (input : List ℕ) : Type 0 where
  pub call : Called
  pub body : List ℕ
  pub close : Bool
  pub left : List ℕ
  pub spells : Spells input call body close left
  pub bad : IsBadBody call body

-- why an input is refused, of which these bytes are yet to come: that it ends too early is found only at its end
pub data IsRefused (input : List ℕ) (fault : HttpFault) (coming : List ℕ) : Type 0 where
  by_head : IsHeadRefused input fault → IsRefused input fault coming
  by_end : fault ≡ BadRequest → EndsEarly input → coming ≡ [] → IsRefused input fault coming
  by_body : fault ≡ BadRequest → HasBadBody input → IsRefused input fault coming

-- what a request asks, and whether the connection is closed after it
pub record Requested : Type 0 where
  pub what : Asked
  pub close : Bool

abbrev pub requested : Request → Requested
requested request = record { what = asked request.ask; close = request.close }

-- the input begins with this request, and these bytes are left
pub record IsRequest (input : List ℕ) (request : Requested) (left : List ℕ) : Type 0 where
  pub call : Called
  pub body : List ℕ
  pub spells : Spells input call body request.close left
  pub asks : IsAsk call body request.what

-- what a refusal says of an input, of which these bytes are yet to come
abbrev pub Refuses : List ℕ → HttpFault → List ℕ → Type 0
Refuses input ReadFault coming = Unit {0}
Refuses input OutOfMemory coming = Unit {0}
Refuses input fault coming = IsRefused input fault coming

-- what is answered to an input, what is left of it, and what of that is yet to come
abbrev pub IsAnswer : List ℕ → Result (Option Request) HttpFault → List ℕ → List ℕ → Type 0
IsAnswer input (Ok None) left coming = (input ≡ []) × (left ≡ [])
IsAnswer input (Ok (Some request)) left coming = IsRequest input (requested request) left
IsAnswer input (Err fault) left coming = Refuses input fault coming
