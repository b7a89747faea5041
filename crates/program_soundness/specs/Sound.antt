-- Soundness of a file of a checked program.
use Rattle.std.specs.Prelude.{◌≡◌, ◌⊎◌, ℕ, List, [], Option, Some, None, slice_get, Ok}
use Rattle.std.specs.List.{AllByRecursion}
use Rattle.std.specs.declared.vec.Vec.{Vec}
use Rattle.std.specs.declared.alloc.Global.{Global}
use Rattle.arm_value.specs.Json.{Json}
use Rattle.reading.specs.World.{value_in}
use Rattle.deploy_cells.specs.Cells.{World}
use Rattle.bicep_tree.specs.Tree.{FileTree}
use Rattle.bicep_resolved.specs.Source.{SourceTree, ValueTree}
use Rattle.bicep_symbols.specs.Entries.{Symbol}
use Rattle.bicep_declared.specs.Declarations.{DeclaredTree, OutputTree}
use Rattle.bicep_program.specs.Program.{ProgramFile}
use Rattle.resolved_program.specs.Programs.{ResolvedFileTree}
use Rattle.bicep_signatures.specs.declared.kinds.Kinds.{Kinds}
use Rattle.bicep_signatures.specs.declared.value_type.ValueType.{ValueType}
use Rattle.bicep_signatures.specs.declared.value_type.ValueType.TheVariants as type
use Rattle.bicep_typing.specs.Names.{Types, listed, types_in}
use Rattle.bicep_typing.specs.Typing.{type_of, value_type}
use Rattle.bicep_type_faults.specs.Files.{file_of}
use Rattle.bicep_types.specs.declared.checked.Types.{Types as ProgramTypes}
use Rattle.bicep_meaning.specs.Around.{Here, Frame}
use Rattle.bicep_meaning.specs.Declared.{around}
use Rattle.bicep_meaning.specs.Meaning.{value_of}
use Rattle.bicep_soundness.specs.Values.{IsOfKinds}
use Rattle.bicep_soundness.specs.Entries.{AreCounting}
use Rattle.bicep_soundness.specs.Suited.{ReachSuited}
use Rattle.bicep_soundness.specs.Sound.{IsSound, IsValueSound}
use Rattle.program_soundness.specs.Parts.{Part, valued, linked, declaration_parts, output_part}

abbrev pub listed_or_none : Option (Vec ValueType Global) → List ValueType
listed_or_none (Some v) = listed v
listed_or_none None = []

-- the types of the symbols of the file of that number, and of the outputs of all files
abbrev pub types_of : ProgramTypes → ℕ → Types
types_of t n = types_in (listed_or_none (slice_get t.symbols.items n)) t.outputs.items

-- the file of the module that a symbol is
abbrev pub module_file : List ProgramFile → Option Symbol → Option FileTree
module_file files (Some x) = file_of files x.2
module_file files None = None

-- A value at a place that takes these kinds: it has a type, each of its values is of it, no operation in it meets a
-- value of a wrong kind unless the type of its operand is Any, and nor does its place, unless the type is Any.
pub record IsSoundAt (ts : Types) (here : Here) (w : World) (k : ℕ) (fs : List Frame) (ks : Kinds) (x : ValueTree)
    : Type 0 where
  pub its_type : ValueType
  pub has_type : value_type ts x ≡ Ok its_type
  pub is_sound : IsValueSound ts here w k x fs its_type
  pub meets : (v : Json) → value_in w (value_of here (around here k) x fs) ≡ Some v
      → IsOfKinds ks v ⊎ (its_type ≡ type.Any)

-- the same of a part, through however many declarations
abbrev pub IsPartSound : Types → Here → World → ℕ → List Frame → Part → Type 0
IsPartSound ts here w k fs (valued ks x) = IsSoundAt ts here w k fs ks x
IsPartSound ts here w k fs (linked r) = ReachSuited ts here (around here k) w r fs

-- All parts of a file of a program are sound, in whichever runs of loops, by the types of its symbols; and so is each
-- expression that has a type by these.
pub record IsFileSound (files : List ProgramFile) (r : ResolvedFileTree) (ts : Types) (here : Here) (w : World)
    : Type 0 where
  pub declarations : (n k : ℕ) (fs : List Frame) (x : DeclaredTree) → AreCounting w fs
      → slice_get r.declared.declarations n ≡ Some x
      → AllByRecursion (IsPartSound ts here w k fs) (declaration_parts (module_file files (slice_get r.symbols n)) x)
  pub outputs : (n k : ℕ) (fs : List Frame) (o : OutputTree) → AreCounting w fs
      → slice_get r.declared.outputs n ≡ Some o → IsPartSound ts here w k fs (output_part o)
  pub expressions : (k : ℕ) (fs : List Frame) (e : SourceTree) (t : ValueType) → AreCounting w fs
      → type_of ts e ≡ Ok t → IsSound ts here w k e fs t
