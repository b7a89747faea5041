-- What came of a deployment: it was turned down, or it was run.
use Rattle.std.specs.Prelude.{◌≡◌, ◌⊎◌, ℕ, List, [], map, Option, IfOk}
use Rattle.command_reports.specs.declared.report.Report.{Report}
use Rattle.deploy_histories.specs.Planned.{Planned}
use Rattle.run_reports.specs.Runs.{by_seat}
use Rattle.run_reports.specs.Deployments.{DeploymentRun, Surroundings, Deployed}
use Rattle.run_reports.specs.Past.{event_of}
use Rattle.run_reports.specs.Reported.{SaysRun, HasFailed}
use Rattle.run_reports.specs.declared.outcome.Outcome.{Outcome}

-- what a deployment is judged by: the reports of true refusals, what its plan is to be of, the names of the tasks of a
-- plan, and its own name
pub record Terms : Type 1 where
  pub IsRefusal : Report → Type 0
  pub IsSource : Planned → Type 0
  pub named : Planned → ℕ → Option (List ℕ)
  pub name : List ℕ

module _ (t : Terms) (s : Surroundings) (o : Outcome) where
  -- it was refused, or memory was out; nothing has happened, and no provider was called
  pub record TurnedDown : Type 0 where
    pub says : IfOk o.report t.IsRefusal
    pub nothing : o.history.items ≡ []
    pub untouched : s.now ≡ s.before

  -- it was run, and this is its history; the report says how it has ended
  pub record WasRun : Type 0 where
    pub run : DeploymentRun
    pub deployed : Deployed t.IsSource s run
    pub handed : map event_of o.history.items ≡ run.history
    pub says : IfOk o.report (SaysRun (t.named run.planned) t.name run.ending)
    pub blamed : (k : ℕ) → run.ending ≡ by_seat k → HasFailed s.before s.now k

  abbrev pub Came : Type 0
  Came = TurnedDown ⊎ WasRun
