-- Programs whose names are found.
use Rattle.std.specs.Prelude.{◌≡◌, ℕ, List, map}
use Rattle.bicep_found.specs.Found.{Found, found, mapped}
use Rattle.bicep_names.specs.Scope.{Symbols, OutputNames, Scope, scope}
use Rattle.bicep_symbols.specs.Entries.{Symbol, symbols_of, looked_up}
use Rattle.bicep_symbols.specs.Outputs.{outputs_of, looked_up_outputs}
use Rattle.bicep_symbols.specs.Outputs.{Named as Output}
use Rattle.bicep_declared.specs.Declarations.{DeclaredFileTree}
use Rattle.bicep_declared.specs.Declare.{declared_file}
use Rattle.bicep_program.specs.Program.{ProgramFile}

-- the symbols of a file of a program, whose modules have the files of the program by their numbers
abbrev pub file_symbols : ProgramFile → List Symbol
file_symbols f = symbols_of f.modules f.tree

-- its outputs, by the bytes of their names
abbrev pub output_names : ProgramFile → OutputNames
output_names f = looked_up_outputs (outputs_of f.tree)

-- the names of its outputs
abbrev pub output_text : Output → List ℕ
output_text n = n.1

abbrev pub output_texts : ProgramFile → List (List ℕ)
output_texts f = map output_text (outputs_of f.tree)

-- what names are in a file of a program: the symbols of the file, and the outputs of all files
abbrev pub scope_in : List ProgramFile → ProgramFile → Scope
scope_in files f = scope (looked_up (file_symbols f)) (map output_names files)

-- a file whose names are found
pub record ResolvedFileTree : Type 0 where
  -- its symbols in source order
  pub symbols : List Symbol
  -- the names of its outputs in source order
  pub outputs : List (List ℕ)
  -- its declarations by the numbers of their symbols, and its outputs
  pub declared : DeclaredFileTree

abbrev pub with_names : List Symbol → List (List ℕ) → DeclaredFileTree → ResolvedFileTree
with_names ss os d = record { symbols = ss; outputs = os; declared = d }

-- what a file of a program stands for, or the first name in it that means nothing
abbrev pub resolved_file : List ProgramFile → ProgramFile → Found ResolvedFileTree
resolved_file files f =
    mapped (with_names (file_symbols f) (output_texts f)) (declared_file (scope_in files f) f.tree)

-- each file of the program stands for the resolved file of its number
abbrev pub IsResolved : List ProgramFile → List ResolvedFileTree → Type 0
IsResolved files rs = map (resolved_file files) files ≡ map (λ r. found r) rs

-- ---- a file and its symbols

-- a file of a program, its symbols, and these by their names
pub record NamedTree : Type 0 where
  pub file : ProgramFile
  pub symbols : List Symbol
  pub looked : Symbols

abbrev pub named_by : ProgramFile → List Symbol → Symbols → NamedTree
named_by f ss looked = record { file = f; symbols = ss; looked = looked }

abbrev pub file_named : ProgramFile → NamedTree
file_named f = named_by f (file_symbols f) (looked_up (file_symbols f))

-- what a file with these symbols stands for, in a program whose files have these outputs
abbrev pub resolved_named : List OutputNames → NamedTree → Found ResolvedFileTree
resolved_named os n =
    mapped (with_names n.symbols (output_texts n.file)) (declared_file (scope n.looked os) n.file.tree)
