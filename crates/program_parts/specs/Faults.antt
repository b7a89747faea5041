-- Why a program has no template: the limit that its template would break.
use Rattle.std.specs.Prelude.{◌≡◌, ◌⊎◌, ℕ, List, Some, None, Result, Err, OnOk, IfErr}
use Rattle.bicep_program.specs.declared.file.SourceFile.{SourceFile as Text}
use Rattle.measured_trees.specs.Extremes.{Extremes}
use Rattle.measured_trees.specs.Limits.{IsBeyond}
use Rattle.measured_trees.specs.Measures.{IsOf}
use Rattle.measured_trees.specs.declared.limits.Beyond.{Beyond}
use Rattle.measured_trees.specs.declared.limits.Beyond.TheVariants as beyond
use Rattle.measured_trees.specs.declared.measure.Measure.{Measure}
use Rattle.resolved_program.specs.declared.resolved.ResolvedFile.{ResolvedFile}
use Rattle.template_parts.specs.declared.limit.Which.TheVariants as which
use Rattle.file_templates.specs.Faults.{IsBatchFault, IsFileFault}
use Rattle.file_templates.specs.Texts.{text_of}
use Rattle.file_templates.specs.declared.fault.EmitFault.{EmitFault}
use Rattle.file_templates.specs.declared.fault.EmitFault.TheVariants as fault
use Rattle.file_templates.specs.declared.file.FileParts.{FileParts}
use Rattle.program_parts.specs.Programs.{IsPair}
use Rattle.program_parts.specs.Measures.{program_extremes}

abbrev pub IsRefused : {R : Type 0} → EmitFault → Result R EmitFault → Type 0
IsRefused x result = result ≡ Err x

abbrev pub IsMemoryFault : EmitFault → Type 0
IsMemoryFault x = x ≡ fault.OutOfMemory

-- ---- files

-- the fault of a file of the program: its batches, or the lists of its template, are too large
pub record IsOfFile (ss : List Text) (rs : List ResolvedFile) (x : EmitFault) : Type 0 where
  pub number : ℕ
  pub text : Text
  pub file : ResolvedFile
  pub pair : IsPair ss rs number text file
  pub fault : IsBatchFault (text_of text) x ⊎ IsFileFault (text_of text) file rs x

abbrev pub IsProgramFault : List Text → List ResolvedFile → EmitFault → Type 0
IsProgramFault ss rs x = IsMemoryFault x ⊎ IsOfFile ss rs x

-- ---- the whole

abbrev pub IsOfBeyond : Beyond → EmitFault → Type 0
IsOfBeyond (beyond.Characters n) x = x ≡ fault.Limit which.Expression n
IsOfBeyond (beyond.Depth n) x = x ≡ fault.Limit which.Nesting n
IsOfBeyond beyond.TooDeep x = x ≡ fault.TooDeep

-- what takes so much is beyond a limit; `TooDeep` only where it is beyond no other one
pub record IsLimitFault (x : Extremes) (y : EmitFault) : Type 0 where
  pub limit : Beyond
  pub fault : IsOfBeyond limit y
  pub is : IsBeyond 0 x (Some limit)

-- what takes as much as is measured is beyond no limit
abbrev pub IsBeyondNone : Measure → Result (Unit {0}) EmitFault → Type 0
IsBeyondNone m result = (x : Extremes) → IsOf x m → OnOk result (IsBeyond 0 x None)

-- or has this fault
abbrev pub HasLimitFault : Measure → Result (Unit {0}) EmitFault → Type 0
HasLimitFault m result = (x : Extremes) → IsOf x m → IfErr result (IsLimitFault x)

-- the template of the program is beyond a limit
abbrev pub IsWholeFault : List FileParts → EmitFault → Type 0
IsWholeFault ps x = IsMemoryFault x ⊎ IsLimitFault (program_extremes ps) x
