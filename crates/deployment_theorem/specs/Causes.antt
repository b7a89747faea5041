-- Why the program ends with its status.
use Rattle.std.specs.Prelude.{◌≡◌, ℕ, Option, Some, None, Ok, IfOk}
use Rattle.arm_edges.specs.Faults.{Rose}
use Rattle.command_reports.specs.Faults.{fault_report}
use Rattle.command_reports.specs.declared.faults.Fault.TheVariants.{Memory, Provider}
use Rattle.command_reports.specs.declared.report.Report.{Report}
use Rattle.command_words.specs.Commands.{Request, ABuild, ADeploy, DeployRequest}
use Rattle.deploy_core.specs.declared.ending.Ending.{Ending}
use Rattle.deployment_reports.specs.Reports.{status_of}
use Rattle.deployment_theorem.specs.Commands.{IsTemplate, IsRefusal, IsSourceOf}
use Rattle.deployment_theorem.specs.Sides.{Outside, Moment, folder_in, providers_in}
use Rattle.request_deployments.specs.Came.{WasRun}
use Rattle.request_deployments.specs.Deployed.{place_in}
use Rattle.request_deployments.specs.Deploying.{terms}
use Rattle.request_deployments.specs.Reported.{HasFailed}
use Rattle.request_deployments.specs.Outcome.{Outcome}
use Rattle.source_builds.specs.Refusals.{IsNotBuilt}

-- the report of which this holds is what is reported
pub record Reports (IsSo : Report → Type 0) (c : Outcome) : Type 0 where
  pub report : Report
  pub is : c.report ≡ Ok report
  pub so : IsSo report

module _ (o : Outside) (before now : Moment) where
  -- a deployment was run to an ending that has this status
  pub record HasEnded (d : DeployRequest) (c : Outcome) (status : ℕ) : Type 0 where
    pub ran : WasRun (terms (IsRefusal (folder_in o) d) (IsSourceOf (folder_in o) d) (place_in d))
        (providers_in o before now) c
    pub ending : Ending
    pub is : ran.run.ending ≡ Ok ending
    pub has : status_of ending ≡ status

  -- the template was built and is reported, or the deployment succeeded
  abbrev pub IsDone : Option Request → Outcome → Type 0
  IsDone None c = ⊥
  IsDone (Some (ABuild b)) c = Reports (IsTemplate (folder_in o) b) c
  IsDone (Some (ADeploy d)) c = HasEnded d c 0

  -- a true reason is reported for which the command was refused
  abbrev pub IsRefused : Option Request → Outcome → Type 0
  IsRefused None c = ⊥
  IsRefused (Some (ABuild b)) c = Reports (IsNotBuilt (folder_in o) b.file b.form) c
  IsRefused (Some (ADeploy d)) c = Reports (IsRefusal (folder_in o) d) c

  -- the deployment failed
  abbrev pub HasFailedTo : Option Request → Outcome → Type 0
  HasFailedTo None c = ⊥
  HasFailedTo (Some (ABuild b)) c = ⊥
  HasFailedTo (Some (ADeploy d)) c = HasEnded d c 3

-- each status has one cause
pub data Cause (o : Outside) (before now : Moment) (command : Option Request) (c : Outcome) (status : ℕ) : Type 0 where
  done : status ≡ 0 → IsDone o before now command c → Cause o before now command c status
  refused : status ≡ 1 → IsRefused o before now command c → Cause o before now command c status
  no_command : status ≡ 2 → command ≡ None → Cause o before now command c status
  failed : status ≡ 3 → HasFailedTo o before now command c → Cause o before now command c status
  -- the count of the tree's faults rose
  by_tree : status ≡ 4 → Rose before.tree_faults now.tree_faults → Cause o before now command c status
  -- that of the output's
  by_output : status ≡ 5 → Rose before.out_faults now.out_faults → Cause o before now command c status
  -- that of the faults of the provider of the seat, which is reported
  by_provider : status ≡ 7 → (k : ℕ) → c.report ≡ Ok (fault_report (Provider k)) → HasFailed before.seats now.seats k
      → Cause o before now command c status
  -- it is reported that memory is out, or it was out for the report
  by_memory : status ≡ 9 → IfOk c.report (λ r. r ≡ fault_report Memory) → Cause o before now command c status
