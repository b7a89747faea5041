-- What is sent of why a request is refused.
use Rattle.std.specs.Prelude.{ℕ, List, codes}
use Rattle.http_replies.specs.declared.code.Code.{Code}
use Rattle.http_replies.specs.declared.code.Code.TheVariants.{BadRequest, HeadTooLarge, LengthRequired, BodyTooLarge}
use Rattle.http_replies.specs.declared.code.Code.TheVariants.{NotFound, MethodNotAllowed, MissingApiVersion}
use Rattle.http_replies.specs.declared.code.Code.TheVariants.{InvalidTemplate, InvalidParameter, ResourceGroupNotFound}
use Rattle.http_replies.specs.declared.code.Code.TheVariants.{ResourceNotFound, LockNotFound, NothingToResume}
use Rattle.http_replies.specs.declared.code.Code.TheVariants.{DeploymentActive, NameInUse, ScopeLocked, ChildrenHeld}

-- the code as it is sent
abbrev pub name_of : Code → List ℕ
name_of BadRequest = codes "BadRequest"
name_of HeadTooLarge = codes "HeadTooLarge"
name_of LengthRequired = codes "LengthRequired"
name_of BodyTooLarge = codes "BodyTooLarge"
name_of NotFound = codes "NotFound"
name_of MethodNotAllowed = codes "MethodNotAllowed"
name_of MissingApiVersion = codes "MissingApiVersion"
name_of (InvalidTemplate message) = codes "InvalidTemplate"
name_of (InvalidParameter message) = codes "InvalidParameter"
name_of (ResourceGroupNotFound message) = codes "ResourceGroupNotFound"
name_of (ResourceNotFound message) = codes "ResourceNotFound"
name_of (LockNotFound message) = codes "LockNotFound"
name_of (NothingToResume message) = codes "NothingToResume"
name_of (DeploymentActive message) = codes "DeploymentActive"
name_of (NameInUse message) = codes "NameInUse"
name_of (ScopeLocked message) = codes "ScopeLocked"
name_of (ChildrenHeld message) = codes "ChildrenHeld"

-- the HTTP status of the code
abbrev pub status_of : Code → ℕ
status_of BadRequest = 400
status_of HeadTooLarge = 431
status_of LengthRequired = 411
status_of BodyTooLarge = 413
status_of NotFound = 404
status_of MethodNotAllowed = 405
status_of MissingApiVersion = 400
status_of (InvalidTemplate message) = 400
status_of (InvalidParameter message) = 400
status_of (ResourceGroupNotFound message) = 404
status_of (ResourceNotFound message) = 404
status_of (LockNotFound message) = 404
status_of (NothingToResume message) = 409
status_of (DeploymentActive message) = 409
status_of (NameInUse message) = 409
status_of (ScopeLocked message) = 409
status_of (ChildrenHeld message) = 409

-- the message: the variant's text, or the code itself where it has none
abbrev pub message_of : Code → List ℕ
message_of BadRequest = codes "BadRequest"
message_of HeadTooLarge = codes "HeadTooLarge"
message_of LengthRequired = codes "LengthRequired"
message_of BodyTooLarge = codes "BodyTooLarge"
message_of NotFound = codes "NotFound"
message_of MethodNotAllowed = codes "MethodNotAllowed"
message_of MissingApiVersion = codes "MissingApiVersion"
message_of (InvalidTemplate message) = message
message_of (InvalidParameter message) = message
message_of (ResourceGroupNotFound message) = message
message_of (ResourceNotFound message) = message
message_of (LockNotFound message) = message
message_of (NothingToResume message) = message
message_of (DeploymentActive message) = message
message_of (NameInUse message) = message
message_of (ScopeLocked message) = message
message_of (ChildrenHeld message) = message
