use Rattle.deploy_histories.specs.Events.{progress}
use Rattle.given_plans.specs.Given.{nothing_known}
use Rattle.given_plans.proofs.StandLemmas.{task_there, grows_itself, scope_seen, stands}
use Rattle.given_plans.proofs.standing.GivenPlanStandings.standing.Goals as goal

pub task-requires : goal.task-requires
task-requires c = (task_there c.args.self.now c.args.task c.requires.within).within

pub returns-clause-grows : goal.returns-clause-grows
returns-clause-grows c = grows_itself nothing_known

pub returns-clause-stands : goal.returns-clause-stands
returns-clause-stands c =
    stands c.args.self.now c.seen_tasks_are_ready.ensures (progress c.args.history.now.events) c.requires.seen
    c.args.task c.task.result c.task.ensures c.requires.waits c.requires.needs c.body_of.result c.body_of.ensures

pub returns-clause-entered : goal.returns-clause-entered
returns-clause-entered c = λ e. scope_seen c.args.self.now nothing_known c.args.task

pub returns-clause-noted : goal.returns-clause-noted
returns-clause-noted c = λ e. tt
