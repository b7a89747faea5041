-- Which cells of a template are marked, where some of its program are: states of resources, and outputs of modules.
use Rattle.std.specs.Prelude.{◌≡◌, ℕ, Bool, true, false, List, Some}
use Rattle.arm_ids.specs.declared.id.ResourceId.{ResourceId}
use Rattle.template_parts.specs.declared.mode.Form.{Form}
use Rattle.deploy_cells.specs.Cells.{Position, Cell, World, offered, output, state}
use Rattle.bicep_emission.specs.Answered.{deployment_types}
use Rattle.bicep_meaning.specs.Instances.{SourceProgram}
use Rattle.cell_renaming.specs.Renaming.{to_position}
use Rattle.emitted_worlds.specs.Facts.{HasFacts}
use Rattle.source_needs.specs.Given.{declares_output}
use Rattle.source_worlds.specs.Numbers.{numbering}

-- which cells are marked, of a template and of its program
pub record Marks : Type 0 where
  pub template : Cell → Bool
  pub source : Cell → Bool

-- no cell is
abbrev pub no_mark : Cell → Bool
no_mark c = false

abbrev pub no_marks : Marks
no_marks = record { template = no_mark; source = no_mark }

-- whether a cell has its value by a task
abbrev pub is_given : Cell → Bool
is_given (offered p x) = true
is_given (output p x) = true
is_given (state k) = true
is_given c = false

-- the same states and outputs are marked in both, and nothing else
pub record AreMarks (z : Form) (d : SourceProgram) (x : Marks) : Type 0 where
  pub states : (k : ResourceId) → x.template (state k) ≡ x.source (state k)
  -- of no nested deployment
  pub resources : (k : ResourceId) → k.types ≡ deployment_types → x.source (state k) ≡ false
  -- an output that is declared, with its condition, and no other
  pub outputs : (p q : Position) (name : List ℕ) → to_position (numbering z d.files) p ≡ Some q
      → declares_output d p name ≡ true → x.template (output q name) ≡ x.source (output p name)
  pub offers : (p q : Position) (name : List ℕ) → to_position (numbering z d.files) p ≡ Some q
      → declares_output d p name ≡ true → x.template (offered q name) ≡ x.source (output p name)
  pub undeclared : (p : Position) (name : List ℕ) → declares_output d p name ≡ false
      → x.source (output p name) ≡ false
  pub others : (c : Cell) → is_given c ≡ false → (x.template c ≡ false) × (x.source c ≡ false)

-- a world, of which the facts hold, in which these cells are marked
pub record IsMarked (z : Form) (d : SourceProgram) (w : World) : Type 0 where
  pub facts : HasFacts z d w
  pub marks : Marks
  pub are_marks : AreMarks z d marks
