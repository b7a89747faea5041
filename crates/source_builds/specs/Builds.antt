-- The bytes of the template of a program.
use Rattle.std.specs.Prelude.{ℕ, List, chars}
use Rattle.bicep_meaning.specs.Files.{SourceFile}
use Rattle.bicep_program.specs.Sources.{Folder}
use Rattle.emitted_files.specs.Files.{IsEmitted}
use Rattle.read_backs.specs.Texts.{IsJsonText}
use Rattle.source_deployments.specs.Sources.{IsCheckedProgram, AreBytesOf}
use Rattle.template_parts.specs.declared.mode.Form.{Form}
use Rattle.template_tree.specs.Tree.{TemplateTree}

-- the file of the name, which is given by its bytes, and those to which its modules lead are a checked program, and the
-- bytes are those of the template that it becomes in the form
pub record IsBuilt (folder : Folder) (main : List ℕ) (form : Form) (bytes : List ℕ) : Type 0 where
  pub sources : List SourceFile
  pub program : IsCheckedProgram folder (chars main) form sources
  pub template : TemplateTree
  pub emitted : IsEmitted form sources template
  pub are_bytes : AreBytesOf template bytes
  pub text : IsJsonText bytes
