use Rattle.std.proofs.Common.{◌∙◌, codes, refl, sym, ap}
use Rattle.foundation.proofs.AsciiWords.{word}
use Rattle.lock_rules.specs.BindFaults.{reason_of}
use Rattle.lock_rules.proofs.bind_fault.reason_of.Goals as goal

pub returns-in-ExtraParameter : goal.returns-in-ExtraParameter
returns-in-ExtraParameter c = word (codes "ExtraParameter") refl ∙ sym (ap reason_of c.in-ExtraParameter.is)

pub returns-in-MissingParameter : goal.returns-in-MissingParameter
returns-in-MissingParameter c = word (codes "MissingParameter") refl ∙ sym (ap reason_of c.in-MissingParameter.is)

pub returns-in-WrongType : goal.returns-in-WrongType
returns-in-WrongType c = word (codes "WrongType") refl ∙ sym (ap reason_of c.in-WrongType.is)

pub returns-in-NotAllowed : goal.returns-in-NotAllowed
returns-in-NotAllowed c = word (codes "NotAllowed") refl ∙ sym (ap reason_of c.in-NotAllowed.is)

pub returns-in-OutOfBounds : goal.returns-in-OutOfBounds
returns-in-OutOfBounds c = word (codes "OutOfBounds") refl ∙ sym (ap reason_of c.in-OutOfBounds.is)

pub returns-in-OutOfMemory : goal.returns-in-OutOfMemory
returns-in-OutOfMemory c = word (codes "OutOfMemory") refl ∙ sym (ap reason_of c.in-OutOfMemory.is)
