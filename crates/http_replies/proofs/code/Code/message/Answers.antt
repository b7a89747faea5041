use Rattle.std.proofs.Common.{codes, refl, sym, ap, ◌∙◌}
use Rattle.foundation.proofs.AsciiWords.{word}
use Rattle.http_replies.specs.Codes.{message_of}
use Rattle.http_replies.proofs.code.Code.message.Goals as goal

pub returns-in-BadRequest : goal.returns-in-BadRequest
returns-in-BadRequest c = word (codes "BadRequest") refl ∙ sym (ap message_of c.in-BadRequest.is)

pub returns-in-HeadTooLarge : goal.returns-in-HeadTooLarge
returns-in-HeadTooLarge c = word (codes "HeadTooLarge") refl ∙ sym (ap message_of c.in-HeadTooLarge.is)

pub returns-in-LengthRequired : goal.returns-in-LengthRequired
returns-in-LengthRequired c = word (codes "LengthRequired") refl ∙ sym (ap message_of c.in-LengthRequired.is)

pub returns-in-BodyTooLarge : goal.returns-in-BodyTooLarge
returns-in-BodyTooLarge c = word (codes "BodyTooLarge") refl ∙ sym (ap message_of c.in-BodyTooLarge.is)

pub returns-in-NotFound : goal.returns-in-NotFound
returns-in-NotFound c = word (codes "NotFound") refl ∙ sym (ap message_of c.in-NotFound.is)

pub returns-in-MethodNotAllowed : goal.returns-in-MethodNotAllowed
returns-in-MethodNotAllowed c = word (codes "MethodNotAllowed") refl ∙ sym (ap message_of c.in-MethodNotAllowed.is)

pub returns-in-MissingApiVersion : goal.returns-in-MissingApiVersion
returns-in-MissingApiVersion c = word (codes "MissingApiVersion") refl ∙ sym (ap message_of c.in-MissingApiVersion.is)
