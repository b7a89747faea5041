-- What the functions of the crate require and ensure.
use Rattle.std.specs.Prelude.{◌≡◌, ◌≤◌, Result, Err}
use Rattle.bicep_tree.specs.Nesting.{file_nesting}
use Rattle.bicep_tree.specs.Tree.{FileTree}
use Rattle.bicep_program.specs.declared.file.SourceFile.{SourceFile as Text}
use Rattle.resolved_program.specs.declared.resolved.ResolvedFile.{ResolvedFile}
use Rattle.source_templates.specs.Seen.{Shape}
use Rattle.file_templates.specs.declared.fault.EmitFault.{EmitFault}
pub use Rattle.std.specs.Prelude.{IfOk, IfErr}
pub use Rattle.source_templates.specs.Built.{templates_of}
pub use Rattle.source_templates.specs.Fits.{IsReady, AreMentioned}
pub use Rattle.file_tables.specs.Orders.{HasBatches, HasOrder, IsOfChecked, IsOrderFor}
pub use Rattle.file_tables.specs.Tables.{IsOfProgram}
pub use Rattle.file_metadata.specs.Files.{IsMetadataOf}
pub use Rattle.file_templates.specs.Faults.{IsBatchFault, IsCount, IsCountOrMemory, IsFaultOf, IsFileFault}
pub use Rattle.file_templates.specs.Faults.{IsMemoryFault}
pub use Rattle.file_templates.specs.Made.{AreGivenIn, CanBeFilled, CanBeMade, IsKeptBy, IsMadeForEach, IsOfEachText}
pub use Rattle.file_templates.specs.Made.{HasFewForEach, HasFewIn, HasMetadataForEach, IsNotedForEach, KeepsForEach}
pub use Rattle.file_templates.specs.Parts.{AreCountedParts, AreMentionedParts, AreMentionsOf, AreParts, ArePartsFor}
pub use Rattle.file_templates.specs.Parts.{ArePartsOf, AreRuledParts, AreRulesOf, AreWithTable, IsMeasureOf}
pub use Rattle.file_templates.specs.Texts.{HasLoops, IsOfFile, IsTabledIn, text_of}

-- what is refused has the fault
abbrev pub IsRefused : {R : Type 0} → EmitFault → Result R EmitFault → Type 0
IsRefused x result = result ≡ Err x

-- no expression of the text nests deeper
abbrev pub IsShallow : Text → Type 0
IsShallow x = file_nesting (text_of x) ≤ 119

-- the table is that of the file of some text
abbrev pub IsTabledBySome : ResolvedFile → Shape → Type 0
IsTabledBySome r s = (t : FileTree) × IsTabledIn t r s
