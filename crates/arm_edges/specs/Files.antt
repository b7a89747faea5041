-- Files by their names, and what a tree of them answers.
use Rattle.std.specs.Prelude.{◌≡◌, ℕ, ◌<◌, ◌≤◌, List, [], ◌∷◌, length, if◌then◌else◌, bytes_eq, string_bytes, Option}
use Rattle.std.specs.Prelude.{Some, None, Result, Ok, Err}
use Rattle.arm_edges.specs.Faults.{Rose}
use Rattle.arm_edges.specs.declared.faults.TreeFault.{TreeFault}
use Rattle.arm_edges.specs.declared.faults.TreeFault.TheVariants.{OutOfMemory, TooLarge, Fault}
use Rattle.arm_edges.specs.declared.mem_tree.MemFile.{MemFile}

-- the bytes of the first of these files that has this name, which is given by its bytes in UTF-8
abbrev pub file_in : List MemFile → List ℕ → Option (List ℕ)
file_in [] name = None
file_in (file ∷ files) name = if bytes_eq (string_bytes file.name) name then Some file.bytes else file_in files name

-- the files of a tree that reports none
abbrev pub no_files : List ℕ → Option (List ℕ)
no_files name = None

-- an answer to the call for this file, or for none: None only where there is none, its bytes where they are not too
-- many, and a refusal where they are
abbrev pub AnswersFile : Option (List ℕ) → Result (Option (List ℕ)) TreeFault → Type 0
AnswersFile file (Ok None) = file ≡ None
AnswersFile file (Ok (Some bytes)) = (file ≡ Some bytes) × (length bytes ≤ 4194304)
AnswersFile file (Err TooLarge) = (bytes : List ℕ) × (file ≡ Some bytes) × (4194304 < length bytes)
AnswersFile file (Err OutOfMemory) = Unit {0}
AnswersFile file (Err Fault) = Unit {0}

-- a fault comes only where the count rose in this call, and every other answer leaves the count
abbrev pub FileCause : ℕ → ℕ → Result (Option (List ℕ)) TreeFault → Type 0
FileCause before now (Ok file) = now ≡ before
FileCause before now (Err TooLarge) = now ≡ before
FileCause before now (Err OutOfMemory) = now ≡ before
FileCause before now (Err Fault) = Rose before now
