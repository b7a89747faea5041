-- When a plan is of the program of the files in a folder, through the bytes of its template.
use Rattle.std.specs.Prelude.{◌≡◌, ℕ, List, map, Some}
use Rattle.arm_value.specs.Json.{Json, IsOrderly}
use Rattle.arm_value.specs.Reading.{reading, data_of}
use Rattle.arm_value.specs.View.{json}
use Rattle.arm_value.specs.declared.value.Value.{Value}
use Rattle.bicep_meaning.specs.Files.{SourceFile}
use Rattle.bicep_meaning.specs.Instances.{SourceProgram}
use Rattle.bicep_program.specs.Program.{ProgramFile, IsProgram}
use Rattle.bicep_program.specs.Sources.{Folder}
use Rattle.sound_programs.specs.Faults.{HasFault}
use Rattle.sound_programs.specs.CheckFault.{CheckFault}
use Rattle.deploy_histories.specs.Planned.{Planned}
use Rattle.deployment_requests.specs.Requests.{Request, IsPlanOf}
use Rattle.emitted_files.specs.Files.{IsEmitted}
use Rattle.emitted_programs.specs.Given.{given_member}
use Rattle.plan_cells.specs.Sites.{parameter_named}
use Rattle.read_backs.specs.Characters.{HasCharacters}
use Rattle.resolved_program.specs.Programs.{ResolvedFileTree, IsResolved}
use Rattle.source_files.specs.Sources.{source_files}
use Rattle.template_meaning.specs.Describes.{Describes}
use Rattle.template_parts.specs.declared.mode.Form.{Form}
use Rattle.template_parts.specs.declared.parameter.Parameter.{Parameter}
use Rattle.template_tree.specs.Tree.{TemplateTree}

-- the main file and the files to which its modules lead are a program without faults, and these are its files
pub record IsCheckedProgram (folder : Folder) (main : List ℕ) (form : Form) (sources : List SourceFile) : Type 0 where
  pub files : List ProgramFile
  pub resolved : List ResolvedFileTree
  pub is_program : IsProgram folder main files
  pub is_resolved : IsResolved files resolved
  pub faultless : (fault : CheckFault) → ¬ HasFault files fault
  pub are_sources : sources ≡ source_files form (map (λ f. f.tree) files) resolved

-- the bytes are a JSON text of a value that describes the template
pub record AreBytesOf (u : TemplateTree) (bytes : List ℕ) : Type 0 where
  pub value : Json
  pub reads : reading bytes ≡ Some (data_of value)
  pub characters : HasCharacters value
  pub described : Describes value u

-- the plan is that of the template which a program becomes and of which the bytes are
pub record IsPlanFor (form : Form) (sources : List SourceFile) (bytes : List ℕ) (q : Request) (x : Planned) : Type 0
  where
    pub template : TemplateTree
    pub emitted : IsEmitted form sources template
    pub are_bytes : AreBytesOf template bytes
    pub is_plan : IsPlanOf q template x

-- the files of the folder spell a checked program, the bytes are of the template that it becomes, and what they state is
-- planned
pub record IsSource (folder : Folder) (main : List ℕ) (form : Form) (bytes : List ℕ) (q : Request) (x : Planned)
    : Type 0 where
  pub sources : List SourceFile
  pub program : IsCheckedProgram folder main form sources
  pub is_plan : IsPlanFor form sources bytes q x

-- the program of these files, with the values of the request and in its place
abbrev pub program_of : List SourceFile → Request → SourceProgram
program_of sources q = record { files = sources; given = map given_member q.given; place = q.place }

-- objects in the defaults of a template's parameters have their members in order
abbrev pub HasOrderlyDefaults : TemplateTree → Type 0
HasOrderlyDefaults u = (x : List ℕ) (p : Parameter) (v : Value) → parameter_named x u ≡ Some p
    → p.default_value ≡ Some v → IsOrderly (json v)
