-- What a file has so that its declarations and values can be emitted, mean the same and are printed.
use Rattle.std.specs.Prelude.{List}
use Rattle.bicep_meaning.specs.Files.{SourceFile}
use Rattle.declaration_laws.specs.Sound.{IsSound}
use Rattle.ordered_emissions.specs.Orders.{IsPaired}
use Rattle.emitted_names.specs.Words.{FileHasWords, OutputsAreNames}
use Rattle.emitted_numbers.specs.Wholes.{FileHasWholes, FileHasAllWholes, HasFewParts}
use Rattle.sound_declarations.specs.Values.{AreValuesSound}
use Rattle.tree_names.specs.Words.{FileHasAllWords}

-- The declarations and the values are sound, the names in them, and those of the outputs of all files, are names of
-- template expressions, their numbers are of 64 bits, and names of resources have few parts.
pub record IsEmittableFile (f : SourceFile) (fs : List SourceFile) : Type 0 where
  pub paired : IsPaired f
  pub sound : IsSound f
  pub values : AreValuesSound f.declared
  pub words : FileHasWords f
  pub all_words : FileHasAllWords f.declared
  pub wholes : FileHasWholes f
  pub all_wholes : FileHasAllWholes f.declared
  pub parts : HasFewParts f
  pub outputs : OutputsAreNames fs
