-- What a file and its values have so that what they become in a template is printed.
use Rattle.std.specs.Prelude.{List}
use Rattle.bicep_resolved.specs.Source.{SourceTree, PropertyTrees, ValueTree}
use Rattle.bicep_meaning.specs.Files.{SourceFile}
use Rattle.bicep_emission.specs.Emitted.{Frame}
use Rattle.emitted_names.specs.Words.{HasWords, FileHasWords, FramesHaveNames, OutputsAreNames}
use Rattle.emitted_numbers.specs.Wholes.{HasWholes, MembersHaveWholes, ValueHasWholes, FileHasWholes, HasFewParts}
use Rattle.emitted_numbers.specs.Wholes.{FramesHaveInts}
use Rattle.tree_names.specs.Words.{HasAllWords, MembersHaveAllWords, ValueHasAllWords}

-- the names in what the file declares, and those of the outputs of all files, are names of template expressions, and
-- its numbers are of 64 bits
pub record IsPrintableFile (f : SourceFile) (fs : List SourceFile) : Type 0 where
  pub words : FileHasWords f
  pub outputs : OutputsAreNames fs
  pub wholes : FileHasWholes f
  pub parts : HasFewParts f

-- the item and the index of each run have such names and numbers
abbrev pub FramesArePrintable : List Frame → Type 0
FramesArePrintable fs = FramesHaveNames fs × FramesHaveInts fs

-- so has an expression
abbrev pub HasPrintable : SourceTree → Type 0
HasPrintable e = HasWords e × HasWholes e

-- so has a value outside of expressions, or its members
abbrev pub TreeHasPrintable : SourceTree → Type 0
TreeHasPrintable e = HasAllWords e × HasWholes e

abbrev pub MembersHavePrintable : PropertyTrees → Type 0
MembersHavePrintable ps = MembersHaveAllWords ps × MembersHaveWholes ps

abbrev pub ValueHasPrintable : ValueTree → Type 0
ValueHasPrintable v = ValueHasAllWords v × ValueHasWholes v
