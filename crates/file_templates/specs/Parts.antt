-- What a template is made of: the table of its file, and other parts.
use Rattle.std.specs.Prelude.{◌≡◌, ℕ, List, Option, None, slice_index_or}
use Rattle.std.specs.BTreeSet.{BTreeSet}
use Rattle.std.specs.declared.alloc.Global.{Global}
use Rattle.std.specs.declared.vec.Vec.{Vec}
use Rattle.template_parts.specs.declared.mode.Form.{Form}
use Rattle.template_parts.specs.declared.parameter.Parameter.{Parameter}
use Rattle.depend_graph.specs.Sets.{keys_of_each}
use Rattle.bicep_tree.specs.Tree.{FileTree}
use Rattle.bicep_dependencies.specs.Dependencies.{AreDependencies}
use Rattle.resolved_program.specs.declared.resolved.ResolvedFile.{ResolvedFile}
use Rattle.resolved_program.specs.View.{file_view}
use Rattle.bicep_checks.specs.Faults.{kinds_of}
use Rattle.bicep_meaning.specs.Files.{SourceFile}
use Rattle.parameter_rules.specs.Files.{IsParameterAt}
use Rattle.measured_trees.specs.Extremes.{Extremes, nothing}
use Rattle.measured_trees.specs.Measures.{IsOf}
use Rattle.measured_trees.specs.declared.measure.Measure.{Measure}
use Rattle.source_templates.specs.Seen.{Shape, file_in}
use Rattle.source_templates.specs.Lists.{AreRules, rule_at}
use Rattle.source_templates.specs.Fits.{AreMentioned}
use Rattle.source_templates.specs.Counts.{first_beyond}
use Rattle.source_templates.specs.Extremes.{file_extremes}
use Rattle.file_metadata.specs.Files.{IsMetadataOf}
use Rattle.file_metadata.specs.declared.files.FileMetadata.{FileMetadata}
use Rattle.file_templates.specs.Texts.{IsTabled}
use Rattle.file_templates.specs.declared.file.FileParts.{FileParts}
use Rattle.file_templates.specs.declared.file.Parts.{Parts}

-- the parameters that the text gives to the symbols of the file
abbrev pub AreRulesOf : FileTree → ResolvedFile → Vec (Option Parameter) Global → Type 0
AreRulesOf t r rules =
    (f : SourceFile) → f.symbols ≡ (file_view r).symbols
    → f.declared.declarations ≡ (file_view r).declared.declarations
    → (n : ℕ) → IsParameterAt t f n (slice_index_or rules.items n None)

-- what the declarations of the file mention
abbrev pub AreMentionsOf : ResolvedFile → Vec (BTreeSet ℕ) Global → Type 0
AreMentionsOf r sets =
    AreDependencies (kinds_of (file_view r)) (file_view r).declared.declarations (keys_of_each sets.items)

-- ---- what the template takes of the limits

-- nothing is asked of what is inside modules
abbrev pub unmeasured : ℕ → Extremes
unmeasured n = nothing

-- the measure is that of the template of the file of a table with metadata, without those of its modules
abbrev pub IsMeasureOf : Form → Shape → List (Option Parameter) → FileMetadata → Measure → Type 0
IsMeasureOf z s rs x m = IsOf (file_extremes z s rs x.symbols.items x.outputs.items unmeasured) m

-- what the template of a file takes, without those of its modules
abbrev pub extremes_of : FileParts → Extremes
extremes_of x =
    file_extremes x.form x.table x.parts.rules.items x.parts.metadata.symbols.items x.parts.metadata.outputs.items
    unmeasured

-- ---- parts

-- these parts, and what the template of the file of a table takes with them
pub record AreParts (z : Form) (s : Shape) (rules : List (Option Parameter)) (x : FileMetadata)
    (sets : List (BTreeSet ℕ)) (p : Parts) : Type 0 where
  pub rules_are : p.rules.items ≡ rules
  pub metadata_is : p.metadata ≡ x
  pub mentioned_are : p.mentioned.items ≡ sets
  pub measure : IsMeasureOf z s rules x p.measure

-- the same with what the declarations of the file mention
abbrev pub AreMentionedParts : Form → Shape → List (Option Parameter) → FileMetadata → Parts → Type 0
AreMentionedParts z s rules x p = (sets : List (BTreeSet ℕ)) × (AreMentioned s sets × AreParts z s rules x sets p)

-- and with the metadata of a text
abbrev pub AreRuledParts : Form → FileTree → Shape → List (Option Parameter) → Parts → Type 0
AreRuledParts z t s rules p = (x : FileMetadata) × (IsMetadataOf t x × AreMentionedParts z s rules x p)

-- the parts are those of the file of a table, with what its template takes of the limits
pub record ArePartsOf (z : Form) (t : FileTree) (s : Shape) (p : Parts) : Type 0 where
  pub rules : (n : ℕ) → IsParameterAt t (file_in s) n (rule_at s p.rules.items n)
  pub there : AreRules s p.rules.items
  pub metadata : IsMetadataOf t p.metadata
  pub mentioned : AreMentioned s p.mentioned.items
  pub measure : IsMeasureOf z s p.rules.items p.metadata p.measure

-- and none of the lists of its template is too long
abbrev pub AreCountedParts : Form → FileTree → Shape → Parts → Type 0
AreCountedParts z t s p = ArePartsOf z t s p × (first_beyond (file_in s) ≡ None)

-- the same with the table
pub record AreWithTable (z : Form) (t : FileTree) (s : Shape) (x : FileParts) : Type 0 where
  pub form : x.form ≡ z
  pub table : x.table ≡ s
  pub parts : AreCountedParts z t s x.parts

-- the parts are those of the file of a text in a checked program, for a form
pub record ArePartsFor (z : Form) (t : FileTree) (r : ResolvedFile) (rs : List ResolvedFile) (x : FileParts)
    : Type 0 where
  pub form : x.form ≡ z
  pub table : IsTabled t r rs x.table
  pub parts : AreCountedParts x.form t x.table x.parts
