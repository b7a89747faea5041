-- Which requests the bytes of a connection spell, one after the other.
use Rattle.std.specs.Prelude.{◌≡◌, ℕ, true, false, List, [], ◌∷◌, Option, Some, None, Result, Ok, Err}
use Rattle.deploy_http.specs.Requests.{IsRefused, IsRequest, Requested, requested}
use Rattle.deploy_http.specs.declared.request.Request.{Request}
use Rattle.deploy_http.specs.declared.fault.HttpFault.{HttpFault}
use Rattle.deploy_http.specs.declared.fault.HttpFault.TheVariants.{ReadFault, OutOfMemory}

-- how the requests of a connection end: the bytes end, the next bytes are refused, or a request closes the connection
pub data Ending : Type 0 where
  ended : Ending
  refused : HttpFault → Ending
  closed : Ending

-- the bytes spell these requests, in their order, and end so
abbrev pub RequestsOf : List ℕ → List Requested → Ending → Type 0
RequestsOf bytes [] ended = bytes ≡ []
RequestsOf bytes [] (refused fault) = IsRefused bytes fault []
RequestsOf bytes [] closed = ⊥
RequestsOf bytes (request ∷ more) end =
    (left : List ℕ) × IsRequest bytes request left
    × (request.close ≡ true → (more ≡ []) × (end ≡ closed))
    × (request.close ≡ false → RequestsOf left more end)

-- an answer, as far as it depends on the bytes
abbrev pub seen : Result (Option Request) HttpFault → Result (Option Requested) HttpFault
seen (Ok (Some request)) = Ok (Some (requested request))
seen (Ok None) = Ok None
seen (Err fault) = Err fault

-- an answer that does not say that a read failed or that memory ran out
abbrev pub IsDecided : Result (Option Request) HttpFault → Type 0
IsDecided answer = (answer ≡ Err ReadFault → ⊥) × (answer ≡ Err OutOfMemory → ⊥)
