-- The template of a file that is made, with the templates of its modules.
use Rattle.std.specs.Prelude.{◌≡◌, ℕ, List, length, Option, None, Some, is_some, slice_get, Result, IfOk}
use Rattle.std.specs.declared.alloc.AllocError.{AllocError}
use Rattle.template_parts.specs.declared.mode.Form.{Form}
use Rattle.template_parts.specs.declared.parameter.Parameter.{Parameter}
use Rattle.template_tree.specs.Tree.{TemplateTree}
use Rattle.template_tree.specs.View.{template_tree}
use Rattle.template_tree.specs.declared.resource.Template.{Template}
use Rattle.plan_cells.specs.Resources.{Nested, nested_at}
use Rattle.bicep_tree.specs.Tree.{FileTree}
use Rattle.bicep_declared.specs.Declarations.{DeclaredTree}
use Rattle.resolved_program.specs.declared.resolved.ResolvedFile.{ResolvedFile}
use Rattle.resolved_program.specs.View.{file_view}
use Rattle.bicep_meaning.specs.Files.{SourceFile, declaration}
use Rattle.source_worlds.specs.Numbers.{symbol_of}
use Rattle.agreeing_files.specs.Agreeing.{outputs_of}
use Rattle.source_templates.specs.Seen.{Shape, file_in, files_in, files_of}
use Rattle.source_templates.specs.Files.{IsFile}
use Rattle.source_templates.specs.Sources.{source_file}
use Rattle.source_templates.specs.Built.{Templates, template_of}
use Rattle.source_templates.specs.Fits.{AreMentioned, FitsBy, HasTemplate, IsReady}
use Rattle.source_templates.specs.Within.{IsWithin}
use Rattle.source_templates.specs.Templates.{CanBeListed}
use Rattle.source_templates.specs.Existing.{HasExisting}
use Rattle.source_templates.specs.Metadata.{HasMetadata}
use Rattle.source_templates.specs.Counted.{HasFewParts}
use Rattle.source_templates.specs.Counts.{first_beyond}
use Rattle.file_metadata.specs.Files.{IsMetadataOf, output_metadata, symbol_metadata}
use Rattle.file_metadata.specs.declared.files.FileMetadata.{FileMetadata}
use Rattle.template_written.specs.Keeps.{Keeps}
use Rattle.source_templates.specs.Placed.{IsPlaced}
use Rattle.source_templates.specs.Kept.{AllKept, AreBatchesSmall}
use Rattle.source_templates.specs.Texts.{IsOfText}
use Rattle.source_templates.specs.Kinds.{HasKinds}
use Rattle.file_templates.specs.Parts.{ArePartsFor}
use Rattle.file_templates.specs.declared.file.FileParts.{FileParts}

-- the template of the file of a table is beyond no limit
pub record CanBeMade (z : Form) (s : Shape) (rs : List (Option Parameter)) : Type 0 where
  pub listed : CanBeListed s rs
  pub fits : (n : ℕ) → FitsBy s n (declaration (file_in s) n)
  pub within : (n : ℕ) → IsWithin z s n

-- a template can be made of the parts, with templates of its modules
pub record CanBeFilled (x : FileParts) : Type 0 where
  pub ready : IsReady x.table
  pub kinds : HasKinds (file_in x.table)
  pub mentioned : AreMentioned x.table x.parts.mentioned.items
  pub fits : CanBeMade x.form x.table x.parts.rules.items

-- there is a template for each module among these declarations
pub record AreGiven (ds : List DeclaredTree) (us : Templates) : Type 0 where
  pub each : (n : ℕ) → HasTemplate (slice_get ds n) (is_some (template_of us n))
  pub all : length us ≡ length ds

abbrev pub AreGivenIn : Shape → Templates → Type 0
AreGivenIn s us = AreGiven (file_in s).declared.declarations us

-- the template is that of a file, with its existing resources in the second form, and with the templates that were
-- given for its modules
pub record IsWith (z : Form) (fs : List SourceFile) (f : SourceFile) (us : Templates) (u : TemplateTree) : Type 0 where
  pub file : IsFile fs f z u
  pub existing : HasExisting z fs f u
  pub inner : (m n : ℕ) (x : Nested) → nested_at u m ≡ Some x → symbol_of z f m ≡ Some n
      → template_of us n ≡ Some x.template

-- and it is so for each text whose table and rules these are
abbrev pub IsOfEachText : Form → Shape → List (Option Parameter) → Templates → Template → Type 0
IsOfEachText z s rs us u =
    (t : FileTree) (r : ResolvedFile) (fs : List SourceFile) → IsOfText t r s rs
    → outputs_of (files_in s) ≡ outputs_of fs → IsWith z fs (source_file z t (file_view r)) us (template_tree u)

-- the template is that of the file of a text, in a program whose files have the outputs of these
abbrev pub IsMadeFor : Form → FileTree → ResolvedFile → List ResolvedFile → Templates → Template → Type 0
IsMadeFor z t r rs us u =
    (fs : List SourceFile) → outputs_of (files_of rs) ≡ outputs_of fs
    → IsWith z fs (source_file z t (file_view r)) us (template_tree u)

-- the template keeps the rules of templates, where those of the modules do
abbrev pub KeepsRules : Templates → Template → Type 0
KeepsRules us u = AllKept us → Keeps (template_tree u)

-- so it is for a file with names in their places and small batches
abbrev pub IsKeptBy : Shape → Templates → Template → Type 0
IsKeptBy s us u = IsPlaced (file_in s) → AreBatchesSmall (file_in s) → KeepsRules us u

-- the template is that of each file of a program whose parts these are
abbrev pub IsMadeForEach : FileParts → Templates → Result Template AllocError → Type 0
IsMadeForEach x us result =
    (z : Form) (t : FileTree) (r : ResolvedFile) (rs : List ResolvedFile) → ArePartsFor z t r rs x
    → IfOk result (IsMadeFor z t r rs us)

-- and keeps the rules, where those of the modules do
abbrev pub KeepsForEach : FileParts → Templates → Result Template AllocError → Type 0
KeepsForEach x us result =
    (z : Form) (t : FileTree) (r : ResolvedFile) (rs : List ResolvedFile) → ArePartsFor z t r rs x
    → IfOk result (KeepsRules us)

-- ---- metadata

-- the template has the metadata of the text's decorators
abbrev pub HasMetadataOf : Form → FileTree → ResolvedFile → Template → Type 0
HasMetadataOf z t r u =
    HasMetadata z (source_file z t (file_view r)) (symbol_metadata t) (output_metadata t) (template_tree u)

-- it has that of each text whose table, rules and metadata these are
abbrev pub IsNotedForEach : Form → Shape → List (Option Parameter) → FileMetadata → Template → Type 0
IsNotedForEach z s rs x u =
    (t : FileTree) (r : ResolvedFile) → IsOfText t r s rs → IsMetadataOf t x → HasMetadataOf z t r u

-- and that of each file of a program whose parts these are
abbrev pub HasMetadataForEach : FileParts → Result Template AllocError → Type 0
HasMetadataForEach x result =
    (z : Form) (t : FileTree) (r : ResolvedFile) (rs : List ResolvedFile) → ArePartsFor z t r rs x
    → IfOk result (HasMetadataOf z t r)

-- ---- lists

-- no list of the template is too long
abbrev pub HasFew : Template → Type 0
HasFew u = HasFewParts (template_tree u)

-- none is, where no count of the file of a table is beyond its limit
abbrev pub HasFewIn : Shape → Template → Type 0
HasFewIn s u = first_beyond (file_in s) ≡ None → HasFew u

-- none is, where the parts are those of a file of a program
abbrev pub HasFewForEach : FileParts → Result Template AllocError → Type 0
HasFewForEach x result =
    (z : Form) (t : FileTree) (r : ResolvedFile) (rs : List ResolvedFile) → ArePartsFor z t r rs x
    → IfOk result HasFew
