use Rattle.std.proofs.Common.{◌≡◌, List, Some, subst}
use Rattle.std.specs.Prelude.{slice_get, option_map}
use Rattle.plan_table.specs.Whole.{scopes_of}
use Rattle.task_aims.specs.Task.{Task}
use Rattle.task_aims.specs.Plans.{task_in}
use Rattle.task_standings.specs.Standings.{kind_of}
use Rattle.plan_standings.specs.Waits.{table_of}
use Rattle.plan_standings.proofs.StandLemmas.{kind_here}
use Rattle.plan_standings.proofs.standings.PlanStandings.task_kind.Goals as goal

pub returns : goal.returns
returns c =
    let g = c.args.self.now.plan.now in
    let os = scopes_of (table_of g) in
    kind_here (task_in os) g.tasks.items c.args.task c.kind_at.result
    (subst (λ (us : List Task). option_map (λ u. kind_of (task_in os u)) (slice_get us c.args.task)
    ≡ Some c.kind_at.result) c.as_slice.ensures.value (c.kind_at.ensures os))
