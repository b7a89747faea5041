-- When a fault holds of a program.
use Rattle.std.specs.Prelude.{◌≡◌, ◌⊎◌, ◌≤◌, ℕ, List, [], map, All, Option, Some, None, slice_get, slice_index}
use Rattle.bicep_names.specs.declared.kind.Kind.{Kind}
use Rattle.bicep_symbols.specs.Entries.{Symbol}
use Rattle.bicep_decorators.specs.Decorators.{bad_in_file}
use Rattle.bicep_misplaced.specs.Files.{misplaced}
use Rattle.bicep_type_texts.specs.Files.{bad_type}
use Rattle.bicep_found.specs.Found.{found}
use Rattle.bicep_placed.specs.Files.{misplaced_link}
use Rattle.bicep_circles.specs.Links.{links}
use Rattle.bicep_states.specs.Entries.{misplaced_variable}
use Rattle.bicep_program.specs.Circles.{IsCircle, Links}
use Rattle.bicep_program.specs.Program.{ProgramFile}
use Rattle.bicep_arguments.specs.Arguments.{bad_argument}
use Rattle.bicep_arguments.specs.Parameters.{FileParameters, file_parameters}
use Rattle.bicep_arguments.specs.declared.fault.ArgumentFault.{ArgumentFault}
use Rattle.bicep_arguments.specs.declared.fault.ArgumentFault.TheVariants as argument
use Rattle.resolved_program.specs.Programs.{ResolvedFileTree, scope_in, resolved_file}
use Rattle.resolved_program.specs.Faults.{twice_of}
use Rattle.resolved_program.specs.Unknown.{FileHasUnknown}
use Rattle.bicep_checks.specs.declared.fault.CheckFault.{CheckFault}
use Rattle.bicep_checks.specs.declared.fault.CheckFault.TheVariants as fault
use Rattle.foundation.specs.Options.{or_else}

-- this holds of the file of that number
pub record OfFile (files : List ProgramFile) (k : ℕ) (P : ProgramFile → Type 0) : Type 0 where
  pub file : ProgramFile
  pub is : slice_get files k ≡ Some file
  pub holds : P file

-- the names of the file are found, and this holds of what it stands for
pub record OfResolved (files : List ProgramFile) (P : ResolvedFileTree → Type 0) (file : ProgramFile) : Type 0 where
  pub resolved : ResolvedFileTree
  pub is : resolved_file files file ≡ found resolved
  pub holds : P resolved

-- the kinds of the symbols of a file
abbrev pub symbol_kind : Symbol → Kind
symbol_kind s = s.2

abbrev pub kinds_of : ResolvedFileTree → List Kind
kinds_of r = map symbol_kind r.symbols

-- ---- decorators

-- the first bad decorator of a file
abbrev pub decorator_in : ProgramFile → Option ℕ
decorator_in f = bad_in_file f.tree

-- ---- what is misplaced

-- the first thing that is misplaced whatever names stand for: its place, or its type text
abbrev pub text_place : ProgramFile → Option ℕ
text_place f = or_else (misplaced f.tree) (bad_type f.tree)

-- the first thing that is misplaced by what its names stand for
abbrev pub link_place : ResolvedFileTree → Option ℕ
link_place r = misplaced_link (kinds_of r) r.declared.declarations

-- the first variable that reads state and is a for-expression
abbrev pub state_place : ResolvedFileTree → Option ℕ
state_place r = misplaced_variable (kinds_of r) r.declared.declarations

abbrev pub Spot : Type 0
Spot = Option (ℕ × ℕ)

-- the first, where it is there, else the second
abbrev pub either : Spot → Spot → Spot
either (Some p) o = Some p
either None o = o

-- what begins there in the file is misplaced
abbrev pub IsMisplaced : List ProgramFile → ℕ → ProgramFile → Type 0
IsMisplaced files at f =
    (text_place f ≡ Some at)
    ⊎ OfResolved files (λ r. (link_place r ≡ Some at) ⊎ (state_place r ≡ Some at)) f

-- ---- the arguments of modules

abbrev pub parameters_of : ProgramFile → FileParameters
parameters_of f = file_parameters f.tree

abbrev pub argument_fault : List ProgramFile → ProgramFile → Option ArgumentFault
argument_fault files f = bad_argument (map parameters_of files) f.modules f.tree

-- ---- circles of symbols

abbrev pub symbol_text : Option Symbol → List ℕ
symbol_text None = []
symbol_text (Some s) = s.1

-- the name of the symbol of that number
abbrev pub name_at : List Symbol → ℕ → List ℕ
name_at ss n = symbol_text (slice_get ss n)

-- for each symbol of a file those that its declaration mentions
abbrev pub links_of : ResolvedFileTree → List (List ℕ)
links_of r = links (kinds_of r) r.declared.declarations

-- the declaration of the symbol of the first number mentions that of the second
abbrev pub Mentions : ResolvedFileTree → ℕ → ℕ → Type 0
Mentions r = Links (links_of r)

-- the first is the least
abbrev pub IsLeastFirst : List ℕ → Type 0
IsLeastFirst numbers = All (λ n. slice_index numbers 0 ≤ n) numbers

-- the names are those of symbols each of which mentions the next, and the last the first, which is declared first
pub record IsCircleOf (names : List (List ℕ)) (r : ResolvedFileTree) : Type 0 where
  pub numbers : List ℕ
  pub names_are : names ≡ map (name_at r.symbols) numbers
  pub circle : IsCircle (Mentions r) numbers
  pub least : IsLeastFirst numbers

-- ---- faults

-- the fault holds of a program
abbrev pub HasFault : List ProgramFile → CheckFault → Type 0
HasFault files (fault.UnknownName k at) = OfFile files k (λ f. FileHasUnknown (scope_in files f) at f.tree)
HasFault files (fault.NameTwice k at) = OfFile files k (λ f. twice_of f ≡ Some at)
HasFault files (fault.SymbolCycle k names) = OfFile files k (OfResolved files (IsCircleOf names))
HasFault files (fault.BadDecorator k at) = OfFile files k (λ f. decorator_in f ≡ Some at)
HasFault files (fault.BadForPlace k at) = OfFile files k (IsMisplaced files at)
HasFault files (fault.MissingModuleParameter k at) =
    OfFile files k (λ f. argument_fault files f ≡ Some (argument.Missing at))
HasFault files (fault.ExtraModuleParameter k at) =
    OfFile files k (λ f. argument_fault files f ≡ Some (argument.Extra at))
HasFault files fault.OutOfMemory = ⊥
