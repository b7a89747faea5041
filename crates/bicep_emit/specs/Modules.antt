-- Templates of files with those of their modules in them, by the parts of the files of a program.
use Rattle.std.specs.Prelude.{◌≡◌, ◌≤◌, ◌*◌, ℕ, suc, List, [], ◌∷◌, None, Option, Some, option_map, Result, IfOk}
use Rattle.template_parts.specs.declared.mode.Form.{Form}
use Rattle.template_tree.specs.Tree.{TemplateTree}
use Rattle.template_tree.specs.View.{template_tree}
use Rattle.template_tree.specs.declared.resource.Template.{Template}
use Rattle.bicep_names.specs.declared.kind.Kind.{Kind}
use Rattle.bicep_symbols.specs.declared.entry.Entry.{Entry}
use Rattle.bicep_program.specs.declared.file.SourceFile.{SourceFile as Text}
use Rattle.resolved_program.specs.declared.resolved.ResolvedFile.{ResolvedFile}
use Rattle.bicep_meaning.specs.Instances.{module_of}
use Rattle.measured_trees.specs.Extremes.{Extremes}
use Rattle.measured_trees.specs.Limits.{AreFlat, AreShort}
use Rattle.template_written.specs.Keeps.{Keeps}
use Rattle.program_parts.specs.Whole.{IsWhole}
use Rattle.program_parts.specs.EmitFault.{EmitFault}
use Rattle.program_parts.specs.FileParts.{FileParts}
use Rattle.program_parts.specs.Programs.{IsAt, IsRead}
use Rattle.program_parts.specs.Measures.{by_file, inner_of, inside, whole}
use Rattle.program_parts.specs.Parts.{ArePartsOfAll}
use Rattle.bicep_emit.specs.Details.{HasAllDetails}
use Rattle.bicep_emit.specs.Programs.{sources_in, texts_in}

-- ---- what can be made

-- the parts are those of the files of a program that is read and checked, for a form
abbrev pub AreOfProgram : List FileParts → Type 0
AreOfProgram ps =
    (z : Form) × ((ss : List Text) × ((rs : List ResolvedFile) × (IsRead ss rs × ArePartsOfAll z ss rs ps)))

-- it takes no more than the limits, in a template in which modules may be so deep in one another
pub record Fits (x : Extremes) (depth : ℕ) : Type 0 where
  pub short : AreShort x
  pub deep : x.depth ≤ 4 * depth
  pub flat : AreFlat x

-- what takes so much can be made of the parts of a program
pub record CanBe (ps : List FileParts) (x : Extremes) (depth : ℕ) : Type 0 where
  pub known : AreOfProgram ps
  pub most : depth ≤ 30
  pub fits : Fits x depth

-- the template of the file of a number
abbrev pub CanBeWhole : List FileParts → ℕ → ℕ → Type 0
CanBeWhole ps k depth = CanBe ps (whole ps (suc depth) k) depth

-- the same with its parts
pub record CanBeWholePart (ps : List FileParts) (p : FileParts) (depth : ℕ) : Type 0 where
  pub number : ℕ
  pub is : IsAt ps number p
  pub can : CanBeWhole ps number depth

-- the templates of the modules among these symbols
abbrev pub CanBeModules : List FileParts → List Entry → ℕ → Type 0
CanBeModules ps es depth = CanBe ps (inner_of (whole ps depth) es) depth

-- that of a symbol, where it is a module
abbrev pub CanBeModule : List FileParts → Kind → ℕ → Type 0
CanBeModule ps kind depth = CanBe ps (by_file (whole ps depth) (module_of kind)) depth

-- that of the file of a module
abbrev pub CanBeInner : List FileParts → ℕ → ℕ → Type 0
CanBeInner ps k depth = CanBe ps (inside (whole ps depth k)) depth

-- ---- what is made

-- the template is that of the file of a number, and those of its modules are in it
pub record IsWholeOf (z : Form) (ss : List Text) (rs : List ResolvedFile) (k : ℕ) (u : TemplateTree) : Type 0 where
  pub whole : IsWhole z (sources_in z ss rs) k u
  -- it keeps the rules of templates
  pub keeps : Keeps u
  -- and has the metadata and the existing resources of the files, and no list that is too long
  pub details : HasAllDetails z (texts_in ss) (sources_in z ss rs) k u

abbrev pub IsWholeFile : Form → List Text → List ResolvedFile → ℕ → Template → Type 0
IsWholeFile z ss rs k u = IsWholeOf z ss rs k (template_tree u)

-- what is said of each program whose parts these are
abbrev pub OfEach : List FileParts → (Form → List Text → List ResolvedFile → Type 0) → Type 0
OfEach ps P =
    (z : Form) (ss : List Text) (rs : List ResolvedFile) → IsRead ss rs → ArePartsOfAll z ss rs ps → P z ss rs

abbrev pub IsWholeIn : List FileParts → ℕ → Template → Type 0
IsWholeIn ps k u = OfEach ps (λ z ss rs. IsWholeFile z ss rs k u)

abbrev pub IsWholeAtEach : List FileParts → FileParts → Result Template EmitFault → Type 0
IsWholeAtEach ps p result = (k : ℕ) → IsAt ps k p → IfOk result (IsWholeIn ps k)

-- templates of files, of which this is said by the numbers of the files
module _ (W : ℕ → TemplateTree → Type 0) where
  -- where there is a number of a file, the template of the file is there
  abbrev pub IsGiven : Option ℕ → Option TemplateTree → Type 0
  IsGiven None o = o ≡ None
  IsGiven (Some j) None = ⊥
  IsGiven (Some j) (Some u) = W j u

  -- the templates of these symbols, which are there where they are those of modules
  abbrev pub AreGiven : List Entry → List (Option Template) → Type 0
  AreGiven [] [] = Unit {0}
  AreGiven [] (u ∷ us) = ⊥
  AreGiven (e ∷ es) [] = ⊥
  AreGiven (e ∷ es) (u ∷ us) = IsGiven (module_of e.kind) (option_map template_tree u) × AreGiven es us

abbrev pub AreModules : List FileParts → List Entry → List (Option Template) → Type 0
AreModules ps es us = OfEach ps (λ z ss rs. AreGiven (IsWholeOf z ss rs) es us)

abbrev pub IsGivenIn : List FileParts → Option ℕ → Option Template → Type 0
IsGivenIn ps o u = OfEach ps (λ z ss rs. IsGiven (IsWholeOf z ss rs) o (option_map template_tree u))

abbrev pub IsModuleFor : List FileParts → Kind → Option Template → Type 0
IsModuleFor ps kind u = IsGivenIn ps (module_of kind) u

abbrev pub IsInner : List FileParts → ℕ → Option Template → Type 0
IsInner ps k u = IsGivenIn ps (Some k) u
