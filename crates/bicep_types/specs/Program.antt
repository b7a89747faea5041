-- The types of the symbols and of the outputs of a program, and what does not fit in a file.
use Rattle.std.specs.Prelude.{ℕ, List, map, Option, Some, None, Ok, Err}
use Rattle.bicep_signatures.specs.declared.value_type.ValueType.{ValueType}
use Rattle.bicep_typing.specs.Typed.{Fitting}
use Rattle.bicep_type_faults.specs.Files.{file_fits}
use Rattle.bicep_symbol_types.specs.SymbolTypes.{with_outputs, symbol_types, AreTypes}
use Rattle.bicep_symbol_types.specs.Outputs.{output_types}
use Rattle.bicep_program.specs.Program.{ProgramFile}
use Rattle.resolved_program.specs.Programs.{ResolvedFileTree}
use Rattle.bicep_checks.specs.Faults.{kinds_of}

-- the types of the outputs of a file
abbrev pub output_types_of : ProgramFile → List ValueType
output_types_of f = output_types f.tree

-- for each file of a program the types of its outputs
abbrev pub all_output_types : List ProgramFile → List (List ValueType)
all_output_types files = map output_types_of files

-- the types of the symbols of a file, in a program whose files have these outputs
abbrev pub symbol_types_by : List (List ValueType) → ResolvedFileTree → List ValueType
symbol_types_by os r = symbol_types os r.declared.declarations

-- these types are those that the declarations of the file say by these types themselves
abbrev pub IsSettledBy : List (List ValueType) → ResolvedFileTree → Type 0
IsSettledBy os r = AreTypes os r.declared.declarations (symbol_types_by os r)

-- the place of the first part that does not fit, where one does not
abbrev pub place_of : Fitting → Option ℕ
place_of (Ok u) = None
place_of (Err at) = Some at

-- the place of the first part of a file that does not fit, in a program whose files have these outputs
abbrev pub type_place_by : List ProgramFile → List (List ValueType) → ResolvedFileTree → Option ℕ
type_place_by files os r =
    place_of (file_fits files (with_outputs os (symbol_types_by os r)) (kinds_of r) r.declared)

-- the place of the first part of a file of a program that does not fit
abbrev pub type_place : List ProgramFile → ResolvedFileTree → Option ℕ
type_place files r = type_place_by files (all_output_types files) r
