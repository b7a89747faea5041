-- What the functions of the crate require and ensure.
use Rattle.std.specs.Prelude.{◌≡◌, ◌⊎◌, ℕ, Bool, List, Option, Result, Ok, Err, IfOk, chars}
use Rattle.std.specs.declared.alloc.AllocError.{AllocError}
use Rattle.arm_edges.specs.Faults.{Rose}
use Rattle.bicep_emit.specs.Bytes.{IsBytesOf}
use Rattle.bicep_emit.specs.Programs as emit
use Rattle.bicep_emit.specs.Programs.{HasNoFault, IsCheckedAs, IsEmission}
use Rattle.bicep_emit.specs.EmitFault.{EmitFault}
use Rattle.bicep_program.specs.Program.{IsProgram, files_of}
use Rattle.bicep_program.specs.Sources.{Folder, folder_of}
use Rattle.bicep_program.specs.declared.file.Program.{Program}
use Rattle.bicep_types.specs.declared.checked.Checked.{Checked}
use Rattle.command_reports.specs.Faults.{fault_report}
use Rattle.command_reports.specs.declared.faults.Fault.TheVariants.{Tree}
use Rattle.command_reports.specs.declared.report.Report.{Report}
use Rattle.source_builds.specs.Builds.{IsBuilt}
use Rattle.source_builds.specs.Refusals.{IsUnchecked, IsUnemitted, IsNotBuilt, HasEmitFault}
pub use Rattle.source_builds.specs.Refusals.{emit_report}
pub use Rattle.source_builds.specs.Laws.{BuiltProgramsArePlanned}
use Rattle.source_builds.specs.declared.building.NotBuilt.{NotBuilt}
use Rattle.source_builds.specs.declared.building.NotBuilt.TheVariants.{Refused, OutOfMemory}
use Rattle.template_parts.specs.declared.mode.Form.{Form}
use Rattle.template_tree.specs.declared.resource.Template.{Template}

abbrev pub IsLoaded : Program → Type 0
IsLoaded p = emit.IsLoaded p

-- the program is read, and nothing is wrong in it
pub record IsLoadedAndChecked (p : Program) (c : Checked) : Type 0 where
  pub loaded : emit.IsLoaded p
  pub checked : IsCheckedAs p c
  pub faultless : HasNoFault p

-- the report, where there was memory for it
abbrev pub IsRefusedBy : Result Report AllocError → NotBuilt → Type 0
IsRefusedBy (Ok r) n = n ≡ Refused r
IsRefusedBy (Err e) n = n ≡ OutOfMemory

-- the answer is unchanged
abbrev pub IsSame : {R : Type 0} → R → R → Type 0
IsSame result answer = result ≡ answer

-- the report of a program without a template
abbrev pub IsEmitReport : List ℕ → EmitFault → Result Report AllocError → Type 0
IsEmitReport main fault result = IfOk result (λ r. r ≡ emit_report main fault)

-- bytes, or the report of a reason; nothing is said where memory was out for the report
abbrev pub BuiltOr : (List ℕ → Type 0) → (Report → Type 0) → Result (List ℕ) NotBuilt → Type 0
BuiltOr built not (Ok bytes) = built bytes
BuiltOr built not (Err (Refused r)) = not r
BuiltOr built not (Err OutOfMemory) = Unit {0}

-- the bytes are those of the template that a checked program becomes, or it becomes none within the limits
abbrev pub IsEmittedAs : Form → Program → Checked → Result (List ℕ) EmitFault → Type 0
IsEmittedAs form p c (Ok bytes) = (t : Template) × (IsEmission form p c t × IsBytesOf t bytes)
IsEmittedAs form p c (Err f) = HasEmitFault form p c f

-- why there are none
pub record IsUnemittedAs (form : Form) (p : Program) (c : Checked) (main : List ℕ) (r : Report) : Type 0 where
  pub fault : EmitFault
  pub holds : HasEmitFault form p c fault
  pub report : r ≡ emit_report main fault

abbrev pub HasBuiltChecked : Program → Checked → List ℕ → Form → Result (List ℕ) NotBuilt → Type 0
HasBuiltChecked p c main form result =
    BuiltOr (λ bytes. IsEmittedAs form p c (Ok bytes)) (IsUnemittedAs form p c main) result

-- why none are built of a program that is loaded
abbrev pub IsRefusedLoaded : Folder → List ℕ → Form → Report → Type 0
IsRefusedLoaded folder main form r = IsUnchecked folder main r ⊎ IsUnemitted folder main form r

abbrev pub HasBuiltProgram : Program → List ℕ → Form → Result (List ℕ) NotBuilt → Type 0
HasBuiltProgram p main form result =
    (folder : Folder) → IsProgram folder (chars main) (files_of p)
    → BuiltOr (IsBuilt folder main form) (IsRefusedLoaded folder main form) result

-- the bytes are those of the template of the program of the main file, or nothing is built for the reason reported
abbrev pub HasBuilt : Bool → (List ℕ → Option (List ℕ)) → List ℕ → Form → Result (List ℕ) NotBuilt → Type 0
HasBuilt tells file main form result =
    BuiltOr (IsBuilt (folder_of tells file) main form) (IsNotBuilt (folder_of tells file) main form) result

-- bytes are built, or another fault than one of the tree is reported
abbrev pub IsUntroubled : Result (List ℕ) NotBuilt → Type 0
IsUntroubled result = BuiltOr (λ bytes. Unit {0}) (λ r. ¬ (r.status ≡ 4)) result

-- nothing is built, and the tree's fault is reported, where there was memory for that
abbrev pub IsTroubled : Result (List ℕ) NotBuilt → Type 0
IsTroubled result = BuiltOr (λ bytes. ⊥) (λ r. r ≡ fault_report Tree) result

-- the tree's count of faults is unchanged, or it rose, and that is reported
abbrev pub TellsTree : ℕ → ℕ → Result (List ℕ) NotBuilt → Type 0
TellsTree before now result = ((now ≡ before) × IsUntroubled result) ⊎ (Rose before now × IsTroubled result)

-- the files are unchanged
abbrev pub Stay : (List ℕ → Option (List ℕ)) → (List ℕ → Option (List ℕ)) → Type 0
Stay old new = new ≡ old
