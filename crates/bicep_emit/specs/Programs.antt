-- The template of a program, and the files of the program as their meaning has them.
use Rattle.std.specs.Prelude.{◌≤◌, ℕ, List, map}
use Rattle.template_parts.specs.declared.mode.Form.{Form}
use Rattle.template_tree.specs.View.{template_tree}
use Rattle.template_tree.specs.declared.resource.Template.{Template}
use Rattle.arm_value.specs.Json.{nesting}
use Rattle.template_written.specs.Keeps.{Keeps}
use Rattle.template_written.specs.Written.{written}
use Rattle.bicep_tree.specs.Tree.{FileTree}
use Rattle.bicep_program.specs.Program.{ProgramFile, IsProgram, files_of, program_file}
use Rattle.bicep_program.specs.Sources.{Folder}
use Rattle.bicep_program.specs.declared.file.Program.{Program}
use Rattle.bicep_program.specs.declared.file.SourceFile.{SourceFile as Text}
use Rattle.bicep_types.specs.Checked.{IsChecked}
use Rattle.bicep_types.specs.Faults.{HasFault}
use Rattle.bicep_types.specs.declared.checked.Checked.{Checked}
use Rattle.bicep_types.specs.declared.fault.CheckFault.{CheckFault}
use Rattle.resolved_program.specs.Programs.{ResolvedFileTree}
use Rattle.resolved_program.specs.View.{file_view, files_view}
use Rattle.resolved_program.specs.declared.resolved.ResolvedFile.{ResolvedFile}
use Rattle.bicep_meaning.specs.Files.{SourceFile}
use Rattle.program_parts.specs.Sources.{source_files}
use Rattle.program_parts.specs.Files.{IsEmitted}
use Rattle.bicep_emit.specs.Details.{HasAllDetails}

abbrev pub trees_of : List ProgramFile → List FileTree
trees_of ps = map (λ p. p.tree) ps

-- the files of a program as their meaning has them, for the form of its template
abbrev pub files_in_form : Form → List ProgramFile → List ResolvedFileTree → List SourceFile
files_in_form z ps rs = source_files z (trees_of ps) rs

-- the files are those of a program that `load` returned
abbrev pub IsLoaded : Program → Type 0
IsLoaded p = (folder : Folder) × ((main : List ℕ) × IsProgram folder main (files_of p))

-- `check` returned this for it
abbrev pub IsCheckedAs : Program → Checked → Type 0
IsCheckedAs p c = IsChecked (files_of p) c

abbrev pub HasNoFault : Program → Type 0
HasNoFault p = (fault : CheckFault) → ¬ HasFault (files_of p) fault

-- the texts of a program that is read
abbrev pub texts_in : List Text → List FileTree
texts_in ss = trees_of (map program_file ss)

-- its files, for a form
abbrev pub sources_in : Form → List Text → List ResolvedFile → List SourceFile
sources_in z ss rs = files_in_form z (map program_file ss) (map file_view rs)

-- the template is that of the program in a form
pub record IsEmission (z : Form) (p : Program) (c : Checked) (u : Template) : Type 0 where
  pub emitted : IsEmitted z (files_in_form z (files_of p) (files_view c.resolved)) (template_tree u)
  pub details :
      HasAllDetails z (trees_of (files_of p)) (files_in_form z (files_of p) (files_view c.resolved)) 0 (template_tree u)
  pub keeps : Keeps (template_tree u)
  pub nests : nesting (written (template_tree u)) ≤ 120
