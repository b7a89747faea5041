-- When the template of a file can be built and read back.
use Rattle.std.specs.Prelude.{ℕ}
use Rattle.template_parts.specs.declared.mode.Form.{Form}
use Rattle.bicep_meaning.specs.Files.{declaration}
use Rattle.emitted_numbers.specs.Wholes.{FileHasAllWholes}
use Rattle.tree_names.specs.Words.{FileHasAllWords}
use Rattle.printable_files.specs.Printable.{IsPrintableFile}
use Rattle.emitted_templates.specs.Fits.{FitsBy}
use Rattle.emitted_templates.specs.Lists.{VariablesFit, OutputsFit, DefaultsFit}
use Rattle.emitted_templates.specs.Seen.{Shape, file_in, files_in}
use Rattle.emitted_templates.specs.Within.{IsWithin}

-- the names and the numbers in what the file declares, and in all its values, are those of template expressions
pub record AllIsPrintable (s : Shape) : Type 0 where
  pub file : IsPrintableFile (file_in s) (files_in s)
  pub words : FileHasAllWords (file_in s).declared
  pub wholes : FileHasAllWholes (file_in s).declared

-- what the declarations and the outputs of the file become is within the limits of templates
pub record AllFits (z : Form) (s : Shape) : Type 0 where
  pub defaults : DefaultsFit s
  pub variables : VariablesFit s
  pub outputs : OutputsFit s
  pub bodies : (n : ℕ) → FitsBy s n (declaration (file_in s) n)
  pub within : (n : ℕ) → IsWithin z s n
