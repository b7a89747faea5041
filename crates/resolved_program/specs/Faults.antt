-- The first name of a program that is given twice or means nothing.
use Rattle.std.specs.Prelude.{◌≡◌, ℕ, ◌+◌, List, [], ◌∷◌, Option, Some, None}
use Rattle.bicep_found.specs.Found.{Found, found, unknown}
use Rattle.bicep_found.specs.declared.stop.Stop.{Stop}
use Rattle.bicep_found.specs.declared.stop.Stop.TheVariants as stop
use Rattle.bicep_names.specs.Scope.{OutputNames}
use Rattle.bicep_symbols.specs.Names.{repeated_name}
use Rattle.bicep_symbols.specs.declared.fault.NameFault.{NameFault}
use Rattle.bicep_symbols.specs.declared.fault.NameFault.TheVariants as name
use Rattle.bicep_program.specs.Program.{ProgramFile}
use Rattle.resolved_program.specs.Programs.{NamedTree, resolved_named, resolved_file}
use Rattle.resolved_program.specs.declared.fault.ResolveFault.{ResolveFault}
use Rattle.resolved_program.specs.declared.fault.ResolveFault.TheVariants as fault

abbrev pub numbered : {B : Type 0} → ℕ → Option B → Option (ℕ × B) → Option (ℕ × B)
numbered k (Some x) o = Some (k, x)
numbered k None o = o

-- the first of what is looked for in each item, and the number of that item, where the first item has the number k
abbrev pub first_from : {A B : Type 0} → (A → Option B) → ℕ → List A → Option (ℕ × B)
first_from f k [] = None
first_from f k (x ∷ xs) = numbered k (f x) (first_from f (k + 1) xs)

abbrev pub first_in : {A B : Type 0} → (A → Option B) → List A → Option (ℕ × B)
first_in f xs = first_from f 0 xs

-- the first name that is given twice in a file
abbrev pub twice_of : ProgramFile → Option ℕ
twice_of f = repeated_name f.modules f.tree

-- the first name that means nothing
abbrev pub unknown_in : {A : Type 0} → Found A → Option ℕ
unknown_in (found x) = None
unknown_in (unknown at) = Some at

abbrev pub unknown_of : List ProgramFile → ProgramFile → Option ℕ
unknown_of files f = unknown_in (resolved_file files f)

-- The fault is the first of its kind in the program. A name that means nothing comes only where none is given twice.
abbrev pub IsFirst : List ProgramFile → ResolveFault → Type 0
IsFirst files (fault.Twice k at) = first_in twice_of files ≡ Some (k, at)
IsFirst files (fault.Unknown k at) =
    (first_in twice_of files ≡ None) × (first_in (unknown_of files) files ≡ Some (k, at))
IsFirst files fault.OutOfMemory = Unit {0}

-- ---- the same of one kind

-- the fault of a name that is given twice, in the file of that number
abbrev pub twice_at : ℕ → NameFault → ResolveFault
twice_at k (name.Twice at) = fault.Twice k at
twice_at k name.OutOfMemory = fault.OutOfMemory

abbrev pub IsTwiceIn : List ProgramFile → ResolveFault → Type 0
IsTwiceIn files (fault.Twice k at) = first_in twice_of files ≡ Some (k, at)
IsTwiceIn files (fault.Unknown k at) = ⊥
IsTwiceIn files fault.OutOfMemory = Unit {0}

-- the fault of a name that means nothing, in the file of that number
abbrev pub unknown_at : ℕ → Stop → ResolveFault
unknown_at k (stop.Unknown at) = fault.Unknown k at
unknown_at k stop.OutOfMemory = fault.OutOfMemory

-- the first name that means nothing in a file with its symbols, in a program whose files have these outputs
abbrev pub unknown_by : List OutputNames → NamedTree → Option ℕ
unknown_by os n = unknown_in (resolved_named os n)

abbrev pub IsUnknownIn : List OutputNames → List NamedTree → ResolveFault → Type 0
IsUnknownIn os ns (fault.Twice k at) = ⊥
IsUnknownIn os ns (fault.Unknown k at) = first_in (unknown_by os) ns ≡ Some (k, at)
IsUnknownIn os ns fault.OutOfMemory = Unit {0}
