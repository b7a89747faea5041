-- Why a program is not loaded.
use Rattle.std.specs.Prelude.{◌≡◌, ℕ, List, [], length, Some, None, bytes_eq, Contains, ◌⊎◌}
use Rattle.std.specs.List.{AllByRecursion, IsDistinct}
use Rattle.std.specs.Str.{IsUtf8}
use Rattle.arm_edges.specs.Faults.{Rose}
use Rattle.bicep_tree.specs.Tree.{FileTree}
use Rattle.module_links.specs.Paths.{file_at}
use Rattle.bicep_program.specs.Circles.{IsCircle}
use Rattle.bicep_program.specs.Sources.{Folder, IsReadAs, Holds, Lacks, Has, IsTooLarge, IsLexFault, IsParseFault}
use Rattle.bicep_program.specs.Program.{IsReached, Names, module_paths}
use Rattle.bicep_program.specs.declared.fault.LoadFault.{LoadFault}
use Rattle.bicep_program.specs.declared.fault.LoadFault.TheVariants as fault

-- no file is where the path leads that is written in a file: it leaves the folder, or there is none of that name
abbrev pub LeadsNowhere : Folder → List ℕ → List ℕ → Type 0
LeadsNowhere folder file path = (file_at file path ≡ None)
    ⊎ ((name : List ℕ) × (file_at file path ≡ Some name) × Lacks folder name)

-- the path is that of a module in a file that was reached
pub record IsWritten (folder : Folder) (main file path : List ℕ) : Type 0 where
  pub reached : IsReached folder main file
  pub tree : FileTree
  pub read : IsReadAs folder file tree
  pub written : Contains (module_paths tree) path

-- the path of a module in a file that was reached leads nowhere
abbrev pub IsMissing : Folder → List ℕ → List ℕ → List ℕ → Type 0
IsMissing folder main file path = IsWritten folder main file path × LeadsNowhere folder file path

-- the main file is missing: the refusal has the name that was given
pub record IsMainMissing (folder : Folder) (main file path : List ℕ) : Type 0 where
  pub file_is : file ≡ main
  pub path_is : path ≡ main
  pub nowhere : LeadsNowhere folder [] main

-- 66 files are reached
pub record AreTooMany (folder : Folder) (main : List ℕ) : Type 0 where
  pub names : List (List ℕ)
  pub count : length names ≡ 66
  pub once : IsDistinct bytes_eq names
  pub reached : AllByRecursion (λ name. IsReached folder main name) names
  pub there : AllByRecursion (λ name. Has folder name) names

-- a file that was reached has bytes of which this holds
pub record HasBytes (folder : Folder) (main name : List ℕ) (IsFaulty : List ℕ → Type 0) : Type 0 where
  pub reached : IsReached folder main name
  pub bytes : List ℕ
  pub held : Holds folder name bytes
  pub faulty : IsFaulty bytes

-- each of these files was reached and names the next by a module, and the last names the first
pub record IsModuleCircle (folder : Folder) (main : List ℕ) (circle : List (List ℕ)) : Type 0 where
  pub reached : AllByRecursion (λ name. IsReached folder main name) circle
  pub closed : IsCircle (Names folder) circle

-- the fault holds of the folder and the main file; of a file that cannot be read, and of memory, nothing is said
abbrev pub HasFault : Folder → List ℕ → LoadFault → Type 0
HasFault folder main (fault.ModuleMissing file path) =
    IsMainMissing folder main file path ⊎ IsMissing folder main file path
HasFault folder main (fault.ModuleCycle circle) = IsModuleCircle folder main circle
HasFault folder main fault.TooManyFiles = AreTooMany folder main
HasFault folder main (fault.TooLarge name) = IsReached folder main name × IsTooLarge folder name
HasFault folder main (fault.NotText name) = HasBytes folder main name (λ bytes. ¬ IsUtf8 bytes)
HasFault folder main (fault.Lex name f) = HasBytes folder main name (λ bytes. IsLexFault bytes f)
HasFault folder main (fault.Parse name f) = HasBytes folder main name (λ bytes. IsParseFault bytes f)
HasFault folder main fault.ReadFault = Unit {0}
HasFault folder main fault.OutOfMemory = Unit {0}

-- the count of the tree's faults rises where a file could not be read, and is unchanged otherwise
abbrev pub TreeCounts : ℕ → ℕ → LoadFault → Type 0
TreeCounts before now fault.ReadFault = Rose before now
TreeCounts before now other = now ≡ before
