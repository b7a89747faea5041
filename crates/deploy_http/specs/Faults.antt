-- Why no request was read.
use Rattle.std.specs.Prelude.{◌≡◌, ℕ, Option, Some, None, Result, Err}
use Rattle.arm_edges.specs.Faults.{Rose}
use Rattle.http_replies.specs.declared.code.Code.{Code}
use Rattle.http_replies.specs.declared.code.Code.TheVariants as code
use Rattle.deploy_http.specs.declared.fault.HttpFault.{HttpFault}
use Rattle.deploy_http.specs.declared.fault.HttpFault.TheVariants.{BadRequest, HeadTooLarge, BodyTooLarge, NotFound}
use Rattle.deploy_http.specs.declared.fault.HttpFault.TheVariants.{MethodNotAllowed, MissingApiVersion, LengthRequired}
use Rattle.deploy_http.specs.declared.fault.HttpFault.TheVariants.{ReadFault, OutOfMemory}

-- the code of the reply
abbrev pub code_of : HttpFault → Option Code
code_of BadRequest = Some code.BadRequest
code_of HeadTooLarge = Some code.HeadTooLarge
code_of BodyTooLarge = Some code.BodyTooLarge
code_of NotFound = Some code.NotFound
code_of MethodNotAllowed = Some code.MethodNotAllowed
code_of MissingApiVersion = Some code.MissingApiVersion
code_of LengthRequired = Some code.LengthRequired
code_of ReadFault = None
code_of OutOfMemory = None

-- why no byte was taken: a read failed, or memory ran out
abbrev pub IsTakingFault : HttpFault → Type 0
IsTakingFault ReadFault = Unit {0}
IsTakingFault OutOfMemory = Unit {0}
IsTakingFault _ = ⊥

-- a read failed only where the source's count of faults rose; every other answer leaves the count
abbrev pub ReadCause : {A : Type 0} → ℕ → ℕ → Result A HttpFault → Type 0
ReadCause before now (Err ReadFault) = Rose before now
ReadCause before now _ = now ≡ before
