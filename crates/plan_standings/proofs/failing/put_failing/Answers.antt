use Rattle.std.proofs.Common.{subst}
use Rattle.deploy_histories.specs.Events.{progress}
use Rattle.task_aims.specs.Planned.{planned_by}
use Rattle.point_rows.specs.Rows.{known_now}
use Rattle.task_standings.specs.Standings.{IsStanding}
use Rattle.plan_standings.specs.Waits.{table_of}
use Rattle.plan_standings.proofs.FailLemmas.{never_ready, needs_other, fails_so}
use Rattle.plan_standings.proofs.failing.put_failing.Goals as goal

pub unreachable-requires : goal.unreachable-requires
unreachable-requires c =
    never_ready c.args.plan.now c.args.held.now c.args.history.now.events c.put_standing.new.later c.args.task
    c.args.frame
    c.args.instance c.put_standing.ensures.states.kept.seen c.requires.next
    c.requires.over _
    (subst (IsStanding (planned_by c.args.plan.now c.args.held.now) (progress c.args.history.now.events)
    (known_now (table_of c.args.plan.now) c.put_standing.new.later) c.args.task) c.in-Ok-Ready.field-0-is
    (c.in-Ok-Ready.ensures.stands c.args.task c.requires.next))

pub returns-in-Ok-Waits-clause-failing : goal.returns-in-Ok-Waits-clause-failing
returns-in-Ok-Waits-clause-failing c =
    needs_other c.args.plan.now c.args.held.now c.args.history.now.events c.put_standing.new.later c.args.task
    c.args.frame
    c.args.instance c.put_standing.ensures.states.kept.seen c.requires.next
    c.needed_by_all.ensures c.in-Ok-Waits.other
    (subst (IsStanding (planned_by c.args.plan.now c.args.held.now) (progress c.args.history.now.events)
    (known_now (table_of c.args.plan.now) c.put_standing.new.later) c.args.task) c.in-Ok-Waits.field-0-is
    (c.in-Ok-Waits.ensures.stands c.args.task c.requires.next))

pub returns-in-Ok-Stuck-clause-failing : goal.returns-in-Ok-Stuck-clause-failing
returns-in-Ok-Stuck-clause-failing c =
    fails_so c.args.plan.now c.args.held.now c.args.history.now.events c.put_standing.new.later c.args.task c.args.frame
    c.args.instance c.put_standing.ensures.states.kept.seen c.requires.next
    c.requires.point.under_way.is_planned.whole (c.in-Ok-Stuck.ensures.stuck c.in-Ok-Stuck.field-0-is)
    c.bodyless.result c.bodyless.ensures
