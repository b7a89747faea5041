-- Why a deployment has failed, in words.
use Rattle.std.specs.Prelude.{ℕ, ◌++◌, List, codes}
use Rattle.lock_rules.specs.BindFaults.{fault_text}
use Rattle.lock_rules.specs.LockIds.{lock_id}
use Rattle.lock_rules.specs.declared.cause.Cause.{Cause}
use Rattle.lock_rules.specs.declared.cause.Cause.TheVariants.{Locked, NoValue, Parameter, Refused, Circular}

-- the code of a cause
abbrev pub code_of : Cause → List ℕ
code_of (Locked lock) = codes "ScopeLocked"
code_of (NoValue path) = codes "NoValue"
code_of (Parameter path why) = codes "InvalidParameter"
code_of (Refused code) = code
code_of (Circular tasks) = codes "CircularDependency"

-- the message of a cause: the names of the tasks that it is of, and what there is to say of it
abbrev pub message_of : List ℕ → Cause → List ℕ
message_of names (Locked lock) = names ++ (codes " by " ++ lock_id lock)
message_of names (NoValue path) = names ++ (codes ": " ++ path)
message_of names (Parameter path why) = names ++ (codes ": " ++ fault_text why)
message_of names (Refused code) = names
message_of names (Circular tasks) = names
