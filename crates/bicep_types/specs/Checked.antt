-- Checked programs.
use Rattle.std.specs.Prelude.{◌≡◌, List, map, None}
use Rattle.bicep_typing.specs.Names.{listed}
use Rattle.bicep_program.specs.Program.{ProgramFile}
use Rattle.resolved_program.specs.Programs.{IsResolved}
use Rattle.resolved_program.specs.View.{files_view}
use Rattle.bicep_types.specs.Program.{all_output_types, symbol_types_by, IsSettledBy, type_place}
use Rattle.bicep_types.specs.declared.checked.Types.{Types}
use Rattle.bicep_types.specs.declared.checked.Checked.{Checked}
use Rattle.resolved_program.specs.Programs.{ResolvedFileTree}

-- the types are those of the symbols of these files and of the outputs of the program
pub record AreTypesOf (files : List ProgramFile) (rs : List ResolvedFileTree) (t : Types) : Type 0 where
  pub symbols : map listed t.symbols.items ≡ map (symbol_types_by (all_output_types files)) rs
  pub outputs : map listed t.outputs.items ≡ all_output_types files

-- the types of the symbols of a file are those that its declarations say by these types themselves
abbrev pub IsSettled : List ProgramFile → ResolvedFileTree → Type 0
IsSettled files r = IsSettledBy (all_output_types files) r

-- all parts of a file of a program fit by their types
abbrev pub Fits : List ProgramFile → ResolvedFileTree → Type 0
Fits files r = type_place files r ≡ None

-- the program is that of the files, with its names found and its types
pub record IsChecked (files : List ProgramFile) (c : Checked) : Type 0 where
  pub resolved : IsResolved files (files_view c.resolved)
  pub types : AreTypesOf files (files_view c.resolved) c.types
