-- What is reported of a deployment that was run.
use Rattle.std.specs.Prelude.{◌≡◌, ◌<◌, ℕ, Bool, List, length, map, Option, Result, Ok, Err, IfOk, slice_index_or}
use Rattle.arm_edges.specs.Faults.{Rose}
use Rattle.command_reports.specs.Faults.{fault_report}
use Rattle.command_reports.specs.declared.faults.Fault.TheVariants as fault
use Rattle.command_reports.specs.declared.report.Report.{Report}
use Rattle.deploy_core.specs.Past.{event_of}
use Rattle.deploy_histories.specs.Planned.{Planned}
use Rattle.seat_calls.specs.Called.{Kind}
use Rattle.task_standings.specs.Failures.{Tells}
use Rattle.deploy_core.specs.declared.ending.Ending.{Ending}
use Rattle.deployment_reports.specs.Sayings.{Says}
use Rattle.deployment_reports.specs.Reports.{status_of}
use Rattle.deployment_runs.specs.Runs.{by_seat}
use Rattle.deployment_runs.specs.declared.fault.RunFault.{RunFault}
use Rattle.deployment_runs.specs.declared.fault.RunFault.TheVariants.{Provider, OutOfMemory}
use Rattle.run_reports.specs.Sides.{ProviderSide}
use Rattle.run_reports.specs.Deployments.{DeploymentRun, Surroundings, Ran}
use Rattle.run_reports.specs.declared.outcome.Outcome.{Outcome}
use Rattle.seat_calls.specs.declared.seat.Seat.{Seat}

-- the record of its fields, in this order
abbrev pub surroundings : Kind → Bool → Tells → List (Seat ProviderSide) → List (Seat ProviderSide) → Surroundings
surroundings may tells_calls tells_faults before now = record {
  may = may;
  tells_calls = tells_calls;
  tells_faults = tells_faults;
  before = before;
  now = now;
}

-- the report says how the deployment of this name has ended, by the names of its tasks; or that a provider failed
abbrev pub SaysRun : (ℕ → Option (List ℕ)) → List ℕ → Result Ending RunFault → Report → Type 0
SaysRun named name (Ok e) r = Says named name e r.text × (r.status ≡ status_of e)
SaysRun named name (Err (Provider k)) r = r ≡ fault_report (fault.Provider k)
SaysRun named name (Err OutOfMemory) r = ⊥

-- the count of faults of a provider rose
abbrev pub HasFailed : List (Seat ProviderSide) → List (Seat ProviderSide) → ℕ → Type 0
HasFailed before now k = (k < length before)
    × ((s : Seat ProviderSide) (t : Seat ProviderSide) → Rose (slice_index_or before k s).provider.faults
    (slice_index_or now k t).provider.faults)

-- what is planned was run, and this came of it: its history, and a report unless memory was out for that
pub record IsReported (s : Surroundings) (named : ℕ → Option (List ℕ)) (name : List ℕ) (x : Planned)
    (o : Outcome) : Type 0 where
  pub run : DeploymentRun
  pub planned : run.planned ≡ x
  pub ran : Ran s run
  pub handed : map event_of o.history.items ≡ run.history
  pub says : IfOk o.report (SaysRun named name run.ending)
  -- a provider is blamed only where its count of faults rose
  pub blamed : (k : ℕ) → run.ending ≡ by_seat k → HasFailed s.before s.now k
