-- Why no template is built, and what is reported of it.
use Rattle.std.specs.Prelude.{◌≡◌, ◌⊎◌, ℕ, List, chars, codes}
use Rattle.bicep_emit.specs.Faults.{IsEmitFault}
use Rattle.bicep_emit.specs.Bytes.{IsBytesFault}
use Rattle.bicep_emit.specs.Programs.{HasNoFault, IsCheckedAs, IsEmission}
use Rattle.bicep_emit.specs.EmitFault.{EmitFault}
use Rattle.bicep_emit.specs.EmitFault.TheVariants as emit
use Rattle.bicep_program.specs.Program.{IsProgram, files_of}
use Rattle.bicep_program.specs.Refused.{HasFault}
use Rattle.bicep_program.specs.Sources.{Folder}
use Rattle.bicep_program.specs.declared.fault.LoadFault.{LoadFault}
use Rattle.bicep_program.specs.declared.file.Program.{Program}
use Rattle.bicep_types.specs.Faults.{IsAnswer}
use Rattle.bicep_types.specs.declared.checked.Checked.{Checked}
use Rattle.bicep_types.specs.declared.fault.CheckFault.{CheckFault}
use Rattle.command_refusals.specs.Sources.{load_report, check_report, of_file}
use Rattle.command_reports.specs.Faults.{fault_report}
use Rattle.command_reports.specs.declared.faults.Fault.TheVariants.{Memory}
use Rattle.command_reports.specs.declared.report.Report.{Report}
use Rattle.template_parts.specs.declared.mode.Form.{Form}
use Rattle.template_tree.specs.declared.resource.Template.{Template}

-- a program whose main file has this name becomes no template
abbrev pub emit_report : List ℕ → EmitFault → Report
emit_report main (emit.Limit which number) = of_file (codes "Limit") main
emit_report main emit.TooDeep = of_file (codes "TooDeep") main
emit_report main emit.OutOfMemory = fault_report Memory

-- the files are not loaded
pub record IsUnloaded (folder : Folder) (main : List ℕ) (r : Report) : Type 0 where
  pub fault : LoadFault
  pub holds : HasFault folder (chars main) fault
  pub report : r ≡ load_report main fault

-- something is wrong with the program of the files
pub record IsUnchecked (folder : Folder) (main : List ℕ) (r : Report) : Type 0 where
  pub program : Program
  pub is_program : IsProgram folder (chars main) (files_of program)
  pub fault : CheckFault
  pub holds : IsAnswer (files_of program) fault
  pub report : r ≡ check_report program.files.items fault

-- a checked program of the files
pub record IsChecked (folder : Folder) (main : List ℕ) (p : Program) (c : Checked) : Type 0 where
  pub is_program : IsProgram folder (chars main) (files_of p)
  pub checked : IsCheckedAs p c
  pub faultless : HasNoFault p

-- the checked program becomes no template within the limits, or one whose text is too long
abbrev pub HasEmitFault : Form → Program → Checked → EmitFault → Type 0
HasEmitFault form p c f = IsEmitFault form p c f ⊎ ((t : Template) × (IsEmission form p c t × IsBytesFault t f))

pub record IsUnemitted (folder : Folder) (main : List ℕ) (form : Form) (r : Report) : Type 0 where
  pub program : Program
  pub checked : Checked
  pub is_checked : IsChecked folder main program checked
  pub fault : EmitFault
  pub holds : HasEmitFault form program checked fault
  pub report : r ≡ emit_report main fault

-- the report is that of a true reason for which nothing is built
abbrev pub IsNotBuilt : Folder → List ℕ → Form → Report → Type 0
IsNotBuilt folder main form r = IsUnloaded folder main r ⊎ (IsUnchecked folder main r ⊎ IsUnemitted folder main form r)
