use Rattle.std.proofs.Common.{◌∙◌, codes, refl, sym, ap}
use Rattle.foundation.proofs.AsciiWords.{word}
use Rattle.lock_rules.specs.Causes.{code_of}
use Rattle.lock_rules.proofs.cause.Cause.code.Goals as goal

pub returns-in-Locked : goal.returns-in-Locked
returns-in-Locked c = word (codes "ScopeLocked") refl ∙ sym (ap code_of c.in-Locked.is)

pub returns-in-NoValue : goal.returns-in-NoValue
returns-in-NoValue c = word (codes "NoValue") refl ∙ sym (ap code_of c.in-NoValue.is)

pub returns-in-Parameter : goal.returns-in-Parameter
returns-in-Parameter c = word (codes "InvalidParameter") refl ∙ sym (ap code_of c.in-Parameter.is)

pub returns-in-Circular : goal.returns-in-Circular
returns-in-Circular c = word (codes "CircularDependency") refl ∙ sym (ap code_of c.in-Circular.is)
