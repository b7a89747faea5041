-- What a parameter file of a tree gives, by the file of its name.
use Rattle.std.specs.Prelude.{◌≡◌, ◌<◌, ℕ, Bool, true, List, length, Option, Some, None, Result, Ok, Err}
use Rattle.arm_edges.specs.Faults.{Rose}
use Rattle.template_parts.specs.declared.given.GivenValue.{GivenValue}
use Rattle.parameter_files.specs.Parameters.{IsAnswer}
use Rattle.parameter_files.specs.declared.fault.ParameterFault.{ParameterFault}
use Rattle.parameter_files.specs.declared.fault.ParameterFault.TheVariants as fault

-- these bytes were read: they are the file, where the tree reports its files
abbrev pub WasRead : Bool → Option (List ℕ) → List ℕ → Type 0
WasRead tells file bytes = tells ≡ true → file ≡ Some bytes

-- why no bytes were read
abbrev pub IsNotRead : Bool → Option (List ℕ) → ParameterFault → Type 0
IsNotRead tells file fault.Missing = tells ≡ true → file ≡ None
IsNotRead tells file fault.TooLarge = tells ≡ true → (bytes : List ℕ) × (file ≡ Some bytes) × (4194304 < length bytes)
IsNotRead tells file fault.Fault = Unit {0}
IsNotRead tells file fault.OutOfMemory = Unit {0}
IsNotRead tells file _ = ⊥

abbrev pub IsFileRead : Bool → Option (List ℕ) → Result (List ℕ) ParameterFault → Type 0
IsFileRead tells file (Ok bytes) = WasRead tells file bytes
IsFileRead tells file (Err e) = IsNotRead tells file e

-- what the bytes of the file give, or why none were read
abbrev pub IsFileAnswer : Bool → Option (List ℕ) → Result (List GivenValue) ParameterFault → Type 0
IsFileAnswer tells file (Err fault.Missing) = IsNotRead tells file fault.Missing
IsFileAnswer tells file (Err fault.TooLarge) = IsNotRead tells file fault.TooLarge
IsFileAnswer tells file (Err fault.Fault) = Unit {0}
IsFileAnswer tells file (Err fault.OutOfMemory) = Unit {0}
IsFileAnswer tells file r = (bytes : List ℕ) × WasRead tells file bytes × IsAnswer bytes r

-- the count of the tree's faults rises where the answer is its fault, and is unchanged after every other answer
abbrev pub CountsFault : ℕ → ℕ → ParameterFault → Type 0
CountsFault before now fault.Fault = Rose before now
CountsFault before now _ = now ≡ before

abbrev pub Counts : ℕ → ℕ → Result (List GivenValue) ParameterFault → Type 0
Counts before now (Ok g) = now ≡ before
Counts before now (Err e) = CountsFault before now e

abbrev pub CountsFile : ℕ → ℕ → Result (List ℕ) ParameterFault → Type 0
CountsFile before now (Ok bytes) = now ≡ before
CountsFile before now (Err e) = CountsFault before now e
