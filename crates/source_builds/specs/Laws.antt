-- Statements of laws of built programs.
use Rattle.std.specs.Prelude.{ℕ, List, chars}
use Rattle.arm_value.specs.Json.{Json}
use Rattle.bicep_program.specs.Sources.{Folder}
use Rattle.deploy_histories.specs.Planned.{Planned}
use Rattle.deployment_requests.specs.Requests.{Request, IsPlanBy}
use Rattle.read_backs.specs.Texts.{IsReadBack}
use Rattle.source_builds.specs.Builds.{IsBuilt}
use Rattle.source_deployments.specs.Sources.{IsSource}
use Rattle.template_parts.specs.declared.mode.Form.{Form}

-- a plan of what was read back of the bytes of a built program is one of the program
abbrev pub BuiltProgramsArePlanned : Type 0
BuiltProgramsArePlanned = (folder : Folder) (main : List ℕ) (form : Form) (bytes : List ℕ) (v : Json) (q : Request)
    (x : Planned) → IsBuilt folder main form bytes → IsReadBack bytes v → IsPlanBy v q x
    → IsSource folder (chars main) form bytes q x
