-- When what the declarations of a file become stands for what they mean.
use Rattle.std.specs.Prelude.{◌≡◌, ℕ, true, List, Some}
use Rattle.arm_value.specs.Look.{fold}
use Rattle.arm_env.specs.Look as look
use Rattle.arm_env.specs.declared.env.Looping.{Looping}
use Rattle.deploy_cells.specs.Cells as cells
use Rattle.bicep_emission.specs.Around as source
use Rattle.bicep_emission.specs.Around.{Here}
use Rattle.bicep_emission.specs.Files.{symbol_name, type_of}
use Rattle.bicep_emission.specs.Answered.{Sides, IsAnswered}
use Rattle.bicep_emission.specs.Emitted.{Frame}
use Rattle.bicep_emission.specs.Stands.{IsCapped, Stands, FramesStand, ScopeStands, surroundings}
use Rattle.emitted_declarations.specs.Declared.{Emission}
use Rattle.emitted_declarations.specs.Parts.{PartsStand}

-- the template answers the entries of the variables of a file
abbrev pub AnswersVariables : Sides → Here → Type 0
AnswersVariables x here = (n : ℕ) (name : List ℕ) → symbol_name here.file n ≡ Some name
    → here.file.has_entry n ≡ true
    → IsAnswered x (look.variable (fold name)) (cells.variable here.at (fold name))

-- what all declarations become stands for what they mean
pub record EmissionStands (x : Sides) (here : Here) (loops : List Looping) (b : Emission) (a : source.Around)
    : Type 0 where
  pub scope : ScopeStands x (surroundings here loops) b.scope a
  pub full_name : (n : ℕ) (fs : List Frame) (gs : List source.Frame) → FramesStand x (surroundings here loops) fs gs
      → Stands x (surroundings here loops) (b.full_name n fs) (a.full_name n gs)
  pub full_names_capped : (n : ℕ) (gs : List source.Frame) → IsCapped x (a.full_name n gs)
  pub condition : (n : ℕ) (fs : List Frame) (gs : List source.Frame) → FramesStand x (surroundings here loops) fs gs
      → Stands x (surroundings here loops) (b.condition n fs) (a.condition n gs)
  pub conditions_capped : (n : ℕ) (gs : List source.Frame) → IsCapped x (a.condition n gs)
  pub parts : (n : ℕ) (fs : List Frame) (gs : List source.Frame) → FramesStand x (surroundings here loops) fs gs
      → PartsStand x (surroundings here loops) (type_of here.file n).kind (b.parts n fs) (a.id n gs)
