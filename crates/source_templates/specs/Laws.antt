-- What holds of templates that are made for files.
use Rattle.std.specs.Prelude.{◌≡◌, ℕ, List, Option}
use Rattle.template_parts.specs.declared.mode.Form.{Form}
use Rattle.template_parts.specs.declared.parameter.Parameter.{Parameter}
use Rattle.template_tree.specs.Tree.{TemplateTree}
use Rattle.template_tree.specs.View.{template_tree}
use Rattle.template_tree.specs.declared.resource.Template.{Template}
use Rattle.bicep_tree.specs.Tree.{FileTree}
use Rattle.resolved_program.specs.declared.resolved.ResolvedFile.{ResolvedFile}
use Rattle.resolved_program.specs.View.{file_view}
use Rattle.bicep_meaning.specs.Files.{SourceFile}
use Rattle.source_worlds.specs.Numbers.{symbol_of}
use Rattle.agreeing_files.specs.Agreeing.{outputs_of}
use Rattle.program_templates.specs.Existing.{HasExisting}
use Rattle.source_files.specs.Seen.{Shape, file_in, files_in}
use Rattle.file_metadata.specs.Files.{IsMetadataOf, symbol_metadata, output_metadata}
use Rattle.file_metadata.specs.declared.files.FileMetadata.{FileMetadata}
use Rattle.program_templates.specs.Built.{Templates}
use Rattle.program_templates.specs.Files.{IsFile}
use Rattle.program_templates.specs.Fits.{IsReady}
use Rattle.program_templates.specs.Metadata.{HasMetadata, IsNoted}
use Rattle.source_files.specs.Sources.{source_file}
use Rattle.program_templates.specs.Parts.{HasParts}
use Rattle.program_templates.specs.Templates.{IsTemplateOf}
use Rattle.program_templates.specs.Within.{IsWithin}
pub use Rattle.program_templates.specs.Laws.{CheckedFilesHaveKinds, CheckedNamesDiffer, NestedTemplatesAreGiven}
pub use Rattle.program_templates.specs.Laws.{ParametersAreThere, TemplatesHaveMetadata, TemplatesHaveParts}
pub use Rattle.program_templates.specs.Laws.{FilesWithinLimitsFit, WholeTemplatesAreEmitted}
use Rattle.source_templates.specs.Texts.{IsOfText}

-- a template with the parts of the file of a table is that of the text's file, in a program whose files have the
-- outputs of the table's
abbrev pub TemplatesAreOfTexts : Type 0
TemplatesAreOfTexts =
    (z : Form) (t : FileTree) (r : ResolvedFile) (s : Shape) (rs : List (Option Parameter)) (fs : List SourceFile)
    (u : TemplateTree) → IsOfText t r s rs → outputs_of (files_in s) ≡ outputs_of fs → HasParts z s rs u
    → IsFile fs (source_file z t (file_view r)) z u

-- the resource of a number of the template is that of the same symbol in both files
abbrev pub SymbolsHaveTheSameNumbers : Type 0
SymbolsHaveTheSameNumbers =
    (z : Form) (t : FileTree) (r : ResolvedFile) (s : Shape) (rs : List (Option Parameter)) → IsOfText t r s rs
    → (m : ℕ) → symbol_of z (file_in s) m ≡ symbol_of z (source_file z t (file_view r)) m

-- a template that is made with the metadata of a text has it
abbrev pub TemplatesHaveTheMetadataOfTexts : Type 0
TemplatesHaveTheMetadataOfTexts =
    (z : Form) (t : FileTree) (r : ResolvedFile) (s : Shape) (rs : List (Option Parameter)) (us : Templates)
    (x : FileMetadata) (u : Template) → IsOfText t r s rs → IsMetadataOf t x → IsTemplateOf z s rs us u
    → IsNoted z s x.symbols.items x.outputs.items u
    → HasMetadata z (source_file z t (file_view r)) (symbol_metadata t) (output_metadata t) (template_tree u)

-- a template that is made of the table of a text has the existing resources of the text's file, in a program whose
-- files have the outputs of the table's
abbrev pub TemplatesHaveTheExistingResourcesOfTexts : Type 0
TemplatesHaveTheExistingResourcesOfTexts =
    (z : Form) (t : FileTree) (r : ResolvedFile) (s : Shape) (rs : List (Option Parameter)) (us : Templates)
    (fs : List SourceFile) (u : Template) → IsOfText t r s rs → outputs_of (files_in s) ≡ outputs_of fs → IsReady s
    → ((n : ℕ) → IsWithin z s n) → IsTemplateOf z s rs us u
    → HasExisting z fs (source_file z t (file_view r)) (template_tree u)
