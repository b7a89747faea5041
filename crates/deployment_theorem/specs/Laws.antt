-- Statements of laws of the program.
use Rattle.std.specs.Prelude.{ℕ, List}
use Rattle.bicep_program.specs.Sources.{Folder}
use Rattle.command_words.specs.Commands.{DeployRequest}
use Rattle.deploy_histories.specs.Planned.{Planned}
use Rattle.deployment_theorem.specs.Commands.{IsSourceOf}
use Rattle.deployment_theorem.specs.Sides.{files_in}
use Rattle.request_deployments.specs.Requested.{IsPlanOfBytes}
use Rattle.source_builds.specs.Builds.{IsBuilt}

-- what is planned of the bytes that are built of a program is what the program means
abbrev pub PlansAreOfSources : Type 0
PlansAreOfSources = (folder : Folder) (d : DeployRequest) (bytes : List ℕ) (x : Planned)
    → IsBuilt folder d.file d.form bytes → IsPlanOfBytes (files_in folder) d bytes x → IsSourceOf folder d x
