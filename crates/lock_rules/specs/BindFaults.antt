-- Why a value does not suit a parameter, in words.
use Rattle.std.specs.Prelude.{ℕ, ◌++◌, List, Option, Some, None, codes}
use Rattle.template_parts.specs.declared.fault.BindFault.{BindFault}
use Rattle.template_parts.specs.declared.fault.BindFault.TheVariants as fault

-- the word for why a parameter is refused
abbrev pub reason_of : BindFault → List ℕ
reason_of (fault.ExtraParameter name) = codes "ExtraParameter"
reason_of (fault.MissingParameter name) = codes "MissingParameter"
reason_of (fault.WrongType name) = codes "WrongType"
reason_of (fault.NotAllowed name) = codes "NotAllowed"
reason_of (fault.OutOfBounds name) = codes "OutOfBounds"
reason_of fault.OutOfMemory = codes "OutOfMemory"

-- the name of the parameter
abbrev pub name_of : BindFault → Option (List ℕ)
name_of (fault.ExtraParameter name) = Some name
name_of (fault.MissingParameter name) = Some name
name_of (fault.WrongType name) = Some name
name_of (fault.NotAllowed name) = Some name
name_of (fault.OutOfBounds name) = Some name
name_of fault.OutOfMemory = None

-- a word, and a name after it
abbrev pub named : List ℕ → Option (List ℕ) → List ℕ
named word None = word
named word (Some name) = word ++ (codes " " ++ name)

-- the word, and the name after it
abbrev pub fault_text : BindFault → List ℕ
fault_text why = named (reason_of why) (name_of why)
