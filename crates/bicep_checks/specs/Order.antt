-- Which of several faults is returned.
use Rattle.std.specs.Prelude.{ℕ, ◌<◌, List, Result, Ok, Err}
use Rattle.bicep_program.specs.Program.{ProgramFile}
use Rattle.bicep_checks.specs.Faults.{HasFault}
use Rattle.bicep_checks.specs.declared.fault.CheckFault.{CheckFault}
use Rattle.bicep_checks.specs.declared.fault.CheckFault.TheVariants as fault

-- the kinds of faults in order; both faults of arguments are of one kind
abbrev pub rank : CheckFault → ℕ
rank (fault.NameTwice k at) = 0
rank (fault.UnknownName k at) = 1
rank (fault.SymbolCycle k names) = 2
rank (fault.BadDecorator k at) = 3
rank (fault.BadForPlace k at) = 4
rank (fault.MissingModuleParameter k at) = 5
rank (fault.ExtraModuleParameter k at) = 5
rank fault.OutOfMemory = 6

-- no fault of the first kinds holds, as many as that
abbrev pub HasNone : ℕ → List ProgramFile → Type 0
HasNone count files = (other : CheckFault) → rank other < count → ¬ HasFault files other

-- the fault holds, and none of a kind before its own does
abbrev pub IsFirst : List ProgramFile → CheckFault → Type 0
IsFirst files x = HasFault files x × HasNone (rank x) files

-- the answer to a program that is refused; of memory nothing is said
abbrev pub IsAnswer : List ProgramFile → CheckFault → Type 0
IsAnswer files fault.OutOfMemory = Unit {0}
IsAnswer files x = IsFirst files x

-- no fault of the first kinds holds, as many as that, or one of them is the answer
abbrev pub Passes : ℕ → List ProgramFile → Result (Unit {0}) CheckFault → Type 0
Passes count files (Ok u) = HasNone count files
Passes count files (Err x) = IsAnswer files x
