-- Why a function is not called.
use Rattle.std.specs.Prelude.{◌≡◌, ℕ, List, Option, Some, None, if◌then◌else◌}
use Rattle.arm_functions.specs.declared.fault.FunctionFault.{FunctionFault}
use Rattle.arm_functions.specs.declared.fault.FunctionFault.TheVariants.{UnknownFunction, WrongCount, OutOfMemory}
use Rattle.arm_functions.specs.declared.plain.Plain.{Plain}
use Rattle.arm_functions.specs.Table.{row_of}
use Rattle.arm_functions.specs.Values.{admits}

-- why the function of a row is not called with so many arguments
abbrev pub refusal_by : Option (ℕ × Option ℕ × Option Plain) → ℕ → Option FunctionFault
refusal_by (Some (least, most, Some f)) count = if admits least most count then None else Some WrongCount
refusal_by _ count = Some UnknownFunction

-- why the function of this name is not called with so many arguments: none has the name, or one whose value does not
-- follow from its arguments alone; or they are too few or too many
abbrev pub refusal : List ℕ → ℕ → Option FunctionFault
refusal name count = refusal_by (row_of name) count

-- a call of the function of a row fails with this error: `OutOfMemory` only where nothing refuses the call
abbrev pub IsRefusedBy : Option (ℕ × Option ℕ × Option Plain) → ℕ → FunctionFault → Type 0
IsRefusedBy row count OutOfMemory = refusal_by row count ≡ None
IsRefusedBy row count UnknownFunction = refusal_by row count ≡ Some UnknownFunction
IsRefusedBy row count WrongCount = refusal_by row count ≡ Some WrongCount

-- a call of the function of this name fails with this error
abbrev pub IsRefused : List ℕ → ℕ → FunctionFault → Type 0
IsRefused name count e = IsRefusedBy (row_of name) count e
