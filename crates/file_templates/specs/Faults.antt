-- Why a file has no template: its batches or the lists of its template are too large.
use Rattle.std.specs.Prelude.{◌≡◌, ◌⊎◌, ℕ, List, Some}
use Rattle.template_parts.specs.declared.limit.Which.{Which}
use Rattle.template_parts.specs.declared.limit.Which.TheVariants as which
use Rattle.bicep_tree.specs.Tree.{FileTree}
use Rattle.resolved_program.specs.declared.resolved.ResolvedFile.{ResolvedFile}
use Rattle.symbol_decorators.specs.Limits.{IsFault}
use Rattle.symbol_decorators.specs.declared.fault.BatchFault.{BatchFault}
use Rattle.symbol_decorators.specs.declared.fault.BatchFault.TheVariants as batch
use Rattle.source_templates.specs.Seen.{Shape, file_in}
use Rattle.source_templates.specs.Counts.{first_beyond}
use Rattle.file_templates.specs.Texts.{IsTabled}
use Rattle.file_templates.specs.declared.fault.EmitFault.{EmitFault}
use Rattle.file_templates.specs.declared.fault.EmitFault.TheVariants as fault

abbrev pub IsMemoryFault : EmitFault → Type 0
IsMemoryFault x = x ≡ fault.OutOfMemory

-- the same fault
abbrev pub IsFaultOf : BatchFault → EmitFault → Type 0
IsFaultOf (batch.TooLarge size) x = x ≡ fault.Limit which.Batch size
IsFaultOf batch.OutOfMemory x = x ≡ fault.OutOfMemory

-- a loop of the file has a batch that is too large, of that size
abbrev pub IsBatchFault : FileTree → EmitFault → Type 0
IsBatchFault t (fault.Limit w n) = (w ≡ which.Batch) × IsFault t (batch.TooLarge n)
IsBatchFault t fault.TooDeep = ⊥
IsBatchFault t fault.OutOfMemory = Unit {0}

-- ---- numbers of parts

-- the fault of a number that is beyond its limit
abbrev pub IsCount : Which × ℕ → EmitFault → Type 0
IsCount p x = x ≡ fault.Limit p.0 p.1

-- the parameters, the variables, the outputs or the resources of the template are so many, which is beyond their limit
abbrev pub IsCountFault : Shape → EmitFault → Type 0
IsCountFault s (fault.Limit w n) = first_beyond (file_in s) ≡ Some (w, n)
IsCountFault s fault.TooDeep = ⊥
IsCountFault s fault.OutOfMemory = ⊥

abbrev pub IsCountOrMemory : Shape → EmitFault → Type 0
IsCountOrMemory s x = (x ≡ fault.OutOfMemory) ⊎ IsCountFault s x

-- the fault of a file, by a table of its declarations
abbrev pub IsFileFault : FileTree → ResolvedFile → List ResolvedFile → EmitFault → Type 0
IsFileFault t r rs x = (x ≡ fault.OutOfMemory) ⊎ ((s : Shape) × (IsTabled t r rs s × IsCountFault s x))
