-- How far loading has come.
use Rattle.std.specs.Prelude.{◌≡◌, ℕ, ◌<◌, List, [], length, take, Some, bytes_eq, slice_get, ◌⊎◌}
use Rattle.std.specs.List.{AllByRecursion, IsDistinct}
use Rattle.module_links.specs.declared.entry.Entry.{Entry}
use Rattle.module_links.specs.Paths.{file_at}
use Rattle.module_links.specs.Links.{entry_names, AreLinked}
use Rattle.bicep_program.specs.Sources.{Folder, IsReadAs}
use Rattle.bicep_program.specs.Program.{ProgramFile, names_of, module_paths}
use Rattle.bicep_program.specs.Refused.{IsWritten}
use Rattle.bicep_program.specs.declared.fault.LoadFault.{LoadFault}
use Rattle.bicep_program.specs.declared.fault.LoadFault.TheVariants as fault

-- the entry is the main file, by the name that was given
pub record IsMainEntry (main : List ℕ) (entry : Entry) : Type 0 where
  pub by_is : entry.by ≡ main
  pub path_is : entry.path ≡ main
  pub found : file_at [] main ≡ Some entry.name

-- the entry was named by a module in a file that was reached
pub record IsNamedEntry (folder : Folder) (main : List ℕ) (entry : Entry) : Type 0 where
  pub written : IsWritten folder main entry.by entry.path
  pub found : file_at entry.by entry.path ≡ Some entry.name

abbrev pub IsNoted : Folder → List ℕ → Entry → Type 0
IsNoted folder main entry = IsMainEntry main entry ⊎ IsNamedEntry folder main entry

-- the fault is that this path in this file leads nowhere
abbrev pub IsMissingAt : List ℕ → List ℕ → LoadFault → Type 0
IsMissingAt file path (fault.ModuleMissing f p) = (f ≡ file) × (p ≡ path)
IsMissingAt file path fault.OutOfMemory = Unit {0}
IsMissingAt file path other = ⊥

-- these files were named, the main file first, and the first of them were read and linked
pub record HasCome (folder : Folder) (main : List ℕ) (entries : List Entry) (files : List ProgramFile) : Type 0 where
  pub some : 0 < length entries
  pub noted : AllByRecursion (IsNoted folder main) entries
  pub once : IsDistinct bytes_eq (entry_names entries)
  pub first : slice_get (entry_names entries) 0 ≡ file_at [] main
  pub passed : names_of files ≡ take (length files) (entry_names entries)
  pub read : AllByRecursion (λ file. IsReadAs folder file.name file.tree) files
  pub linked : AllByRecursion
      (λ file. AreLinked (entry_names entries) file.name (module_paths file.tree) file.modules) files
