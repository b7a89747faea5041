use Rattle.std.proofs.Common.{refl}
use Rattle.deploy_histories.specs.Events.{progress}
use Rattle.task_aims.specs.Planned.{planned_by}
use Rattle.plan_standings.proofs.StateLemmas.{nothing_more, states_on, point_on, fewer_after}
use Rattle.plan_standings.proofs.FailStepLemmas.{some_failing}
use Rattle.plan_standings.proofs.failing.leave_failing.Goals as goal

pub looks-init : goal.looks-init
looks-init c =
    nothing_more c.args.plan.now c.args.held.now c.args.numbers.now c.args.history.now.events c.args.later.now
    c.args.later.now c.requires.point refl

pub leave_by-requires-clause-point : goal.leave_by-requires-clause-point
leave_by-requires-clause-point c =
    point_on c.args.plan.now c.args.held.now c.args.numbers.now c.args.history.now.events c.args.later.now c.looks.later
    c.requires.point c.looks.invariant

pub returns-in-Ok-Some-clause-states : goal.returns-in-Ok-Some-clause-states
returns-in-Ok-Some-clause-states c =
    states_on c.args.plan.now c.args.held.now c.args.history.now.events c.args.later.now c.looks.later
    c.leave_by.new.later c.looks.invariant c.leave_by.ensures.states

pub returns-in-Ok-Some-clause-failing : goal.returns-in-Ok-Some-clause-failing
returns-in-Ok-Some-clause-failing c =
    some_failing (planned_by c.args.plan.now c.args.held.now) (progress c.args.history.now.events) c.args.task
    c.in-Ok-Some.field-0 c.in-Ok-Some.failing c.in-Ok-Some.field-0-is c.in-Ok-Some.ensures.failing

pub looks-preserved : goal.looks-preserved
looks-preserved c =
    states_on c.args.plan.now c.args.held.now c.args.history.now.events c.args.later.now c.looks.later
    c.leave_by.new.later c.looks.invariant c.leave_by.ensures.states

pub looks-smaller : goal.looks-smaller
looks-smaller c =
    fewer_after c.looks.later c.leave_by.new.later c.in-Ok-None.field-0 c.in-Ok-None.field-0-is
    c.in-Ok-None.ensures.more

pub returns-in-Err-clause-states : goal.returns-in-Err-clause-states
returns-in-Err-clause-states c =
    states_on c.args.plan.now c.args.held.now c.args.history.now.events c.args.later.now c.looks.later
    c.leave_by.new.later c.looks.invariant c.leave_by.ensures.states
