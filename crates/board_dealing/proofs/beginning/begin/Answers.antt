use Rattle.arm_value.specs.View.{json}
use Rattle.deploy_histories.specs.Events.{progress}
use Rattle.board_dealing.proofs.DealLemmas.{fits_target, job_for}
use Rattle.board_dealing.proofs.PassLemmas.{ready_waits}
use Rattle.board_dealing.proofs.beginning.begin.Goals as goal

pub aim-requires-clause-act : goal.aim-requires-clause-act
aim-requires-clause-act g c = (
  c.requires.ready.of,
  (
    c.requires.ready.may_start.is_task,
    c.requires.act c.requires.ready.of c.requires.ready.may_start.is_task,
  ),
)

pub begin_for-requires-clause-waits : goal.begin_for-requires-clause-waits
begin_for-requires-clause-waits g c =
    ready_waits (g.S.Standings.planned c.args.standings.now) (progress c.args.history.now.events) c.args.task
    (json c.args.body) c.requires.ready

pub begin_for-requires-clause-fits : goal.begin_for-requires-clause-fits
begin_for-requires-clause-fits g c =
    fits_target (g.S.Standings.planned c.args.standings.now) (progress c.args.history.now.events) c.args.task
    (json c.args.body) c.requires.ready
    (c.requires.act c.requires.ready.of c.requires.ready.may_start.is_task)
    (record { act = c.in-Ok.aim.act; id = c.in-Ok.aim.id; api = c.in-Ok.aim.api }) c.in-Ok.ensures

pub returns-in-Ok-clause-job : goal.returns-in-Ok-clause-job
returns-in-Ok-clause-job g c =
    job_for (g.S.Standings.planned c.args.standings.now) c.args.task c.args.worker (json c.args.body)
    (record { act = c.in-Ok.aim.act; id = c.in-Ok.aim.id; api = c.in-Ok.aim.api }) c.begin_for.result c.in-Ok.ensures
    c.begin_for.ensures.job
