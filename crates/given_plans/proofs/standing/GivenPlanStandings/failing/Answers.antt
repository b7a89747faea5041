use Rattle.deploy_histories.specs.Events.{progress}
use Rattle.given_plans.specs.Given.{nothing_known}
use Rattle.given_plans.proofs.StandLemmas.{task_there, grows_itself, never_over}
use Rattle.given_plans.proofs.standing.GivenPlanStandings.failing.Goals as goal

pub returns-clause-grows : goal.returns-clause-grows
returns-clause-grows c = grows_itself nothing_known

pub returns-clause-failing : goal.returns-clause-failing
returns-clause-failing c =
    let t = task_there c.args.self.now c.args.task c.requires.within in
    absurd (never_over c.args.self.now c.seen_tasks_are_ready.ensures (progress c.args.history.now.events)
    c.requires.seen c.args.task t.of t.is c.requires.waits c.requires.needs c.requires.unrefused c.requires.over)
