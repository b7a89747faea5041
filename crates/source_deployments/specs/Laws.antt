-- Statements of laws of deployments of programs.
use Rattle.std.specs.Prelude.{◌≡◌, ℕ, List}
use Rattle.arm_value.specs.Fault.{Gives}
use Rattle.arm_value.specs.Json.{Json}
use Rattle.arm_value.specs.Reading.{reading}
use Rattle.bicep_emission.specs.Answered.{IsPlainPlace}
use Rattle.bicep_meaning.specs.Files.{SourceFile}
use Rattle.bicep_meaning.specs.Instances.{Satisfies}
use Rattle.bicep_program.specs.Sources.{Folder}
use Rattle.cell_renaming.specs.Renaming.{renamed}
use Rattle.deploy_cells.specs.Cells.{Cell, World}
use Rattle.deploy_histories.specs.Planned.{Planned}
use Rattle.deployment_requests.specs.Requests.{Request, IsPlanOf, IsPlanBy}
use Rattle.emitted_worlds.specs.Facts.{HoldsResources}
use Rattle.plan_cells.specs.Desired as template
use Rattle.plan_cells.specs.Desired.{held_state}
use Rattle.read_backs.specs.Characters.{HasCharacters}
use Rattle.source_deployments.specs.Sources.{IsCheckedProgram, AreBytesOf, IsPlanFor, program_of, HasOrderlyDefaults}
use Rattle.source_worlds.specs.Numbers.{numbering}
use Rattle.template_parts.specs.declared.mode.Form.{Form}
use Rattle.template_tree.specs.Tree.{TemplateTree}

-- a plan of what was read back of the bytes of a template is one of the template
abbrev pub ReadBack : Type 0
ReadBack = (u : TemplateTree) (bytes : List ℕ) (v : Json) (q : Request) (x : Planned) → AreBytesOf u bytes
    → HasCharacters v → Gives (reading bytes) v → IsPlanBy v q x → IsPlanOf q u x

-- the world is the renaming of one that satisfies the program of these files
pub record IsOfSource (form : Form) (sources : List SourceFile) (q : Request) (w : World) : Type 0 where
  pub world : World
  pub satisfies : Satisfies (program_of sources q) (held_state q.held) world
  pub same : (c : Cell) → renamed (numbering form sources) world c ≡ w c

-- each desired state of what is planned for a checked program is the renaming of a world that satisfies the program
abbrev pub DesiredStatesAreOfSources : Type 0
DesiredStatesAreOfSources = (folder : Folder) (main : List ℕ) (form : Form) (sources : List SourceFile)
    (bytes : List ℕ) (q : Request) (x : Planned) → IsCheckedProgram folder main form sources
    → (p : IsPlanFor form sources bytes q x) → HasOrderlyDefaults p.template → IsPlainPlace q.place
    → HoldsResources (held_state q.held) → (w : World) → template.Satisfies x.deployment x.held w
    → IsOfSource form sources q w
