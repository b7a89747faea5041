-- What each command does, and what it says of it.
use Rattle.std.specs.Prelude.{◌≡◌, ◌⊎◌, ℕ, List, [], ◌++◌, chars, codes, Option, Some, None, Result, Ok, Err, IfOk}
use Rattle.std.specs.declared.alloc.AllocError.{AllocError}
use Rattle.bicep_program.specs.Sources.{Folder}
use Rattle.command_reports.specs.Faults.{fault_report}
use Rattle.command_reports.specs.Reports.{Output, Reported}
use Rattle.command_reports.specs.declared.faults.Fault.TheVariants.{Memory}
use Rattle.command_reports.specs.declared.report.Report.{Report}
use Rattle.command_words.specs.Commands.{Request, ABuild, ADeploy, BuildRequest, DeployRequest}
use Rattle.deploy_cells.specs.Cells.{World}
use Rattle.deploy_histories.specs.Planned.{Planned}
use Rattle.deployment_requests.specs.Requests as deployment
use Rattle.deployment_theorem.specs.Sides.{Outside, Moment, folder_in, files_in, providers_in}
use Rattle.plan_cells.specs.Desired.{Satisfies}
use Rattle.request_deployments.specs.Deployed.{place_in}
use Rattle.request_deployments.specs.Refused.{IsRefused}
use Rattle.request_deployments.specs.Requested.{IsAsked}
use Rattle.request_deployments.specs.Outcome.{Outcome}
use Rattle.source_builds.specs.Builds.{IsBuilt}
use Rattle.source_builds.specs.Refusals.{IsNotBuilt}
use Rattle.source_deployments.specs.Laws.{IsOfSource}
use Rattle.source_deployments.specs.Sources.{IsSource}
use Rattle.request_deployments.specs.Came.{Came}
use Rattle.request_deployments.specs.Deploying.{terms}

-- ---- what a command does

module _ (folder : Folder) where
  -- the report is the template of the program, and a newline
  pub record IsTemplate (b : BuildRequest) (r : Report) : Type 0 where
    pub bytes : List ℕ
    pub built : IsBuilt folder b.file b.form bytes
    pub text : r.text ≡ bytes ++ codes "\n"
    pub status : r.status ≡ 0

  -- the files become a template, and what the words ask of it is refused for the reason that is reported
  pub record IsNotRun (d : DeployRequest) (r : Report) : Type 0 where
    pub bytes : List ℕ
    pub built : IsBuilt folder d.file d.form bytes
    pub refused : IsRefused (files_in folder) d bytes r

  -- the report is that of a true reason for which the files become no template, or the template is not run
  abbrev pub IsRefusal : DeployRequest → Report → Type 0
  IsRefusal d r = IsNotBuilt folder d.file d.form r ⊎ IsNotRun d r

  -- the files spell a checked program, the bytes are those of its template, and what is read back of them is planned as
  -- the words ask
  pub record IsSourceOf (d : DeployRequest) (x : Planned) : Type 0 where
    pub bytes : List ℕ
    pub request : deployment.Request
    pub asked : IsAsked (files_in folder) d request
    pub source : IsSource folder (chars d.file) d.form bytes request x
    -- each desired state of what is planned is, with its cells renamed, one of the program
    pub means : (w : World) → Satisfies x.deployment x.held w → IsOfSource d.form source.sources request w

module _ (o : Outside) (before now : Moment) where
  -- the words are no command: a text is printed, with status 2
  pub record IsUsage (c : Outcome) : Type 0 where
    pub seats : now.seats ≡ before.seats
    pub nothing : c.history.items ≡ []
    pub text : List ℕ
    pub says : IfOk c.report (λ r. r ≡ record { text = text; status = 2 })

  -- a program is built, or it is reported why it is not
  pub record Builds (b : BuildRequest) (c : Outcome) : Type 0 where
    pub seats : now.seats ≡ before.seats
    pub nothing : c.history.items ≡ []
    pub says : IfOk c.report (λ r. IsTemplate (folder_in o) b r ⊎ IsNotBuilt (folder_in o) b.file b.form r)

  -- a program is deployed: it is refused, or it is run and `Deployed` holds of the run; and it is reported which
  abbrev pub Deploys : DeployRequest → Outcome → Type 0
  Deploys d c =
      Came (terms (IsRefusal (folder_in o) d) (IsSourceOf (folder_in o) d) (place_in d)) (providers_in o before now) c

  -- what the words do, by the command that they are
  abbrev pub Does : Option Request → Outcome → Type 0
  Does None c = IsUsage c
  Does (Some (ABuild b)) c = Builds b c
  Does (Some (ADeploy d)) c = Deploys d c

-- ---- what it says

-- the report was given to the output, or that memory is out; and the program ends with this status
abbrev pub Says : Output → Output → Result Report AllocError → ℕ → Type 0
Says before now (Ok r) status = Reported before now r status
Says before now (Err e) status = Reported before now (fault_report Memory) status
