-- What holds of templates of programs.
use Rattle.std.specs.Prelude.{◌≡◌, ℕ, List, Option, Some, slice_get}
use Rattle.template_parts.specs.declared.mode.Form.{Form}
use Rattle.template_parts.specs.declared.parameter.Parameter.{Parameter}
use Rattle.template_tree.specs.Tree.{TemplateTree, Header, template, ResourceTree, trees}
use Rattle.plan_cells.specs.Resources.{Nested, nested_at}
use Rattle.bicep_tree.specs.Tree.{FileTree}
use Rattle.bicep_program.specs.Program.{ProgramFile}
use Rattle.resolved_program.specs.Programs.{ResolvedFileTree, IsResolved}
use Rattle.bicep_types.specs.Faults.{HasFault}
use Rattle.bicep_types.specs.declared.fault.CheckFault.{CheckFault}
use Rattle.bicep_meaning.specs.Files.{SourceFile}
use Rattle.source_worlds.specs.Numbers.{in_template, symbol_of}
use Rattle.kept_templates.specs.Files.{IsEmitted}
use Rattle.kept_templates.specs.Built.{Templates, template_of, AreBuilt}
use Rattle.kept_templates.specs.Seen.{Shape, file_in}
use Rattle.parameter_rules.specs.Files.{IsParameterAt}
use Rattle.kept_templates.specs.Lists.{AreRules, rule_at}
pub use Rattle.kept_templates.specs.Laws.{FilesWithinLimitsFit, TemplatesHaveMetadata, TemplatesHaveParts}
use Rattle.program_templates.specs.Kinds.{HasKinds, NamesDiffer}
use Rattle.program_templates.specs.Whole.{IsWhole}

-- a template of the main file with those of all modules in it is that of the program
abbrev pub WholeTemplatesAreEmitted : Type 0
WholeTemplatesAreEmitted =
    (z : Form) (files : List SourceFile) (u : TemplateTree) → IsWhole z files 0 u → IsEmitted z files u

-- the template of a nested deployment is the one that was given for its module
abbrev pub NestedTemplatesAreGiven : Type 0
NestedTemplatesAreGiven =
    (z : Form) (s : Shape) (us : Templates) (h : Header) (rs : List ResourceTree)
    → AreBuilt z s us (in_template z (file_in s)) rs → (m n : ℕ) (x : Nested)
    → nested_at (template h (trees rs)) m ≡ Some x → symbol_of z (file_in s) m ≡ Some n
    → template_of us n ≡ Some x.template

-- the symbols of a file are of the kinds of their declarations
abbrev pub CheckedFilesHaveKinds : Type 0
CheckedFilesHaveKinds =
    (files : List ProgramFile) (rs : List ResolvedFileTree) → IsResolved files rs → (k : ℕ) (r : ResolvedFileTree)
    → slice_get rs k ≡ Some r → (f : SourceFile) → f.symbols ≡ r.symbols → f.declared ≡ r.declared → HasKinds f

-- in a program without faults no two symbols of a file, and no two outputs, have the same name
abbrev pub CheckedNamesDiffer : Type 0
CheckedNamesDiffer =
    (files : List ProgramFile) (rs : List ResolvedFileTree) → IsResolved files rs
    → ((fault : CheckFault) → ¬ HasFault files fault) → (k : ℕ) (r : ResolvedFileTree) → slice_get rs k ≡ Some r
    → (f : SourceFile) → f.symbols ≡ r.symbols → f.outputs ≡ r.outputs → NamesDiffer f

-- the parameters that the types and the decorators of a text give are there for all symbols that are parameters
abbrev pub ParametersAreThere : Type 0
ParametersAreThere =
    (t : FileTree) (s : Shape) (rs : List (Option Parameter)) → HasKinds (file_in s)
    → ((n : ℕ) → IsParameterAt t (file_in s) n (rule_at s rs n)) → AreRules s rs
