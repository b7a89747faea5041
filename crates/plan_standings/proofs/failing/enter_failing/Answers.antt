use Rattle.deploy_histories.specs.Events.{progress}
use Rattle.task_aims.specs.Planned.{planned_by}
use Rattle.plan_standings.proofs.EnterLemmas.{point_then, settled_then, states_then}
use Rattle.plan_standings.proofs.FailStepLemmas.{some_failing, failing_fewer}
use Rattle.plan_standings.proofs.failing.enter_failing.Goals as goal

pub returns-in_err-settling-clause-more : goal.returns-in_err-settling-clause-more
returns-in_err-settling-clause-more c =
    settled_then c.args.plan.now c.args.held.now c.args.numbers.now c.args.history.now.events
    c.args.later.now c.looks.later c.settle.new.later c.looks.invariant
    (point_then c.args.plan.now c.args.held.now c.args.numbers.now c.args.history.now.events c.args.later.now
    c.looks.later c.requires.point c.looks.invariant) c.settle.ensures.goes

pub entry_by-requires-clause-point : goal.entry_by-requires-clause-point
entry_by-requires-clause-point c =
    point_then c.args.plan.now c.args.held.now c.args.numbers.now c.args.history.now.events c.args.later.now
    c.settle.new.later c.requires.point
    (settled_then c.args.plan.now c.args.held.now c.args.numbers.now c.args.history.now.events
    c.args.later.now c.looks.later c.settle.new.later c.looks.invariant
    (point_then c.args.plan.now c.args.held.now c.args.numbers.now c.args.history.now.events c.args.later.now
    c.looks.later c.requires.point c.looks.invariant) c.settle.ensures.goes)

pub returns-in-Ok-Some-clause-more : goal.returns-in-Ok-Some-clause-more
returns-in-Ok-Some-clause-more c =
    states_then c.args.plan.now c.args.held.now c.args.numbers.now c.args.history.now.events c.args.later.now
    c.settle.new.later c.entry_by.new.later
    (settled_then c.args.plan.now c.args.held.now c.args.numbers.now c.args.history.now.events
    c.args.later.now c.looks.later c.settle.new.later c.looks.invariant
    (point_then c.args.plan.now c.args.held.now c.args.numbers.now c.args.history.now.events c.args.later.now
    c.looks.later c.requires.point c.looks.invariant) c.settle.ensures.goes) c.entry_by.ensures.states

pub returns-in-Ok-Some-clause-failing : goal.returns-in-Ok-Some-clause-failing
returns-in-Ok-Some-clause-failing c =
    some_failing (planned_by c.args.plan.now c.args.held.now) (progress c.args.history.now.events) c.args.task
    c.in-Ok-Some.field-0 c.in-Ok-Some.failing c.in-Ok-Some.field-0-is c.in-Ok-Some.ensures.failing

pub looks-preserved : goal.looks-preserved
looks-preserved c =
    states_then c.args.plan.now c.args.held.now c.args.numbers.now c.args.history.now.events c.args.later.now
    c.settle.new.later c.entry_by.new.later
    (settled_then c.args.plan.now c.args.held.now c.args.numbers.now c.args.history.now.events
    c.args.later.now c.looks.later c.settle.new.later c.looks.invariant
    (point_then c.args.plan.now c.args.held.now c.args.numbers.now c.args.history.now.events c.args.later.now
    c.looks.later c.requires.point c.looks.invariant) c.settle.ensures.goes) c.entry_by.ensures.states

pub looks-smaller : goal.looks-smaller
looks-smaller c =
    failing_fewer c.looks.later
    c.settle.new.later c.entry_by.new.later c.in-Ok-None.field-0 c.settle.ensures.goes.states
    c.in-Ok-None.field-0-is c.in-Ok-None.ensures.more

pub returns-in-Err-clause-more : goal.returns-in-Err-clause-more
returns-in-Err-clause-more c =
    states_then c.args.plan.now c.args.held.now c.args.numbers.now c.args.history.now.events c.args.later.now
    c.settle.new.later c.entry_by.new.later
    (settled_then c.args.plan.now c.args.held.now c.args.numbers.now c.args.history.now.events
    c.args.later.now c.looks.later c.settle.new.later c.looks.invariant
    (point_then c.args.plan.now c.args.held.now c.args.numbers.now c.args.history.now.events c.args.later.now
    c.looks.later c.requires.point c.looks.invariant) c.settle.ensures.goes) c.entry_by.ensures.states

pub entry_by-requires-clause-told : goal.entry_by-requires-clause-told
entry_by-requires-clause-told c = c.settle.ensures.goes.told c.looks.invariant.told
