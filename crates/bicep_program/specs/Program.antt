-- Programs: a file and the files that its modules name.
use Rattle.std.specs.Prelude.{◌≡◌, ℕ, ◌<◌, ◌≤◌, List, [], length, map, Option, Some, None, bytes_eq, Contains}
use Rattle.std.specs.Prelude.{slice_get}
use Rattle.std.specs.List.{AllByRecursion, filter_map, IsDistinct}
use Rattle.bicep_tree.specs.Tree.{FileTree, StatementTree, statement, DeclarationTree, a_module}
use Rattle.bicep_tree.specs.View.{file_of}
use Rattle.module_links.specs.Paths.{file_at}
use Rattle.module_links.specs.Links.{AreLinked}
use Rattle.bicep_program.specs.Circles.{IsCircle, Links}
use Rattle.bicep_program.specs.Sources.{Folder, IsReadAs}
use Rattle.bicep_program.specs.declared.file.Program.{Program}
use Rattle.bicep_program.specs.declared.file.SourceFile.{SourceFile}

-- a file of a program: its name, its tree, and for each of its modules in order the number of the file that it names
pub record ProgramFile : Type 0 where
  pub name : List ℕ
  pub tree : FileTree
  pub modules : List ℕ

abbrev pub program_file : SourceFile → ProgramFile
program_file s = record { name = s.name; tree = file_of s.file.items; modules = s.modules.items }

abbrev pub files_of : Program → List ProgramFile
files_of p = map program_file p.files.items

-- the path of a module
abbrev pub declared_path : DeclarationTree → Option (List ℕ)
declared_path (a_module at n path b) = Some path.text
declared_path d = None

abbrev pub module_path : StatementTree → Option (List ℕ)
module_path (statement ds d) = declared_path d

-- the paths of a file's modules in order
abbrev pub module_paths : FileTree → List (List ℕ)
module_paths f = filter_map module_path f

abbrev pub names_of : List ProgramFile → List (List ℕ)
names_of files = map (λ file. file.name) files

-- for each file the numbers of the files that its modules name
abbrev pub links_of : List ProgramFile → List (List ℕ)
links_of files = map (λ file. file.modules) files

-- the file of the first name has a module whose path names the file of the second
pub record Names (folder : Folder) (file named : List ℕ) : Type 0 where
  pub tree : FileTree
  pub read : IsReadAs folder file tree
  pub path : List ℕ
  pub written : Contains (module_paths tree) path
  pub found : file_at file path ≡ Some named

-- the file of that name is the main file, or modules lead to it from the main file
pub data IsReached (folder : Folder) (main : List ℕ) : List ℕ → Type 0 where
  begun : {name : List ℕ} → file_at [] main ≡ Some name → IsReached folder main name
  further : {file name : List ℕ} → IsReached folder main file → Names folder file name → IsReached folder main name

-- The files are the program of a main file, which is given by its name: the main file first, each file that it
-- reaches once, and none that names itself through modules.
pub record IsProgram (folder : Folder) (main : List ℕ) (files : List ProgramFile) : Type 0 where
  pub first : slice_get (names_of files) 0 ≡ file_at [] main
  pub some : 0 < length files
  pub few : length files ≤ 65
  pub once : IsDistinct bytes_eq (names_of files)
  pub reached : AllByRecursion (λ file. IsReached folder main file.name) files
  pub read : AllByRecursion (λ file. IsReadAs folder file.name file.tree) files
  pub linked : AllByRecursion (λ file. AreLinked (names_of files) file.name (module_paths file.tree) file.modules) files
  pub circle_free : (circle : List ℕ) → ¬ IsCircle (Links (links_of files)) circle
