use Rattle.plan_standings.proofs.EnterLemmas.{point_then, settled_then, states_then, fewer_looks, some_look}
use Rattle.plan_standings.proofs.readiness.enter_standing.Goals as goal

pub returns-in_err-settling-clause-more : goal.returns-in_err-settling-clause-more
returns-in_err-settling-clause-more c =
    settled_then c.args.plan.now c.args.held.now c.args.numbers.now c.args.history.now.events
    c.args.later.now c.looks.later c.settle.new.later c.looks.invariant
    (point_then c.args.plan.now c.args.held.now c.args.numbers.now c.args.history.now.events c.args.later.now
    c.looks.later c.requires.point c.looks.invariant) c.settle.ensures.goes

pub answer_settling-requires-clause-point : goal.answer_settling-requires-clause-point
answer_settling-requires-clause-point c =
    point_then c.args.plan.now c.args.held.now c.args.numbers.now c.args.history.now.events c.args.later.now
    c.settle.new.later c.requires.point
    (settled_then c.args.plan.now c.args.held.now c.args.numbers.now c.args.history.now.events
    c.args.later.now c.looks.later c.settle.new.later c.looks.invariant
    (point_then c.args.plan.now c.args.held.now c.args.numbers.now c.args.history.now.events c.args.later.now
    c.looks.later c.requires.point c.looks.invariant) c.settle.ensures.goes)

pub returns-in-Ok-Some-clause-more : goal.returns-in-Ok-Some-clause-more
returns-in-Ok-Some-clause-more c =
    states_then c.args.plan.now c.args.held.now c.args.numbers.now c.args.history.now.events c.args.later.now
    c.settle.new.later c.answer_settling.new.later
    (settled_then c.args.plan.now c.args.held.now c.args.numbers.now c.args.history.now.events
    c.args.later.now c.looks.later c.settle.new.later c.looks.invariant
    (point_then c.args.plan.now c.args.held.now c.args.numbers.now c.args.history.now.events c.args.later.now
    c.looks.later c.requires.point c.looks.invariant) c.settle.ensures.goes) c.answer_settling.ensures.states

pub returns-in-Ok-Some-clause-stands : goal.returns-in-Ok-Some-clause-stands
returns-in-Ok-Some-clause-stands c = λ u next.
    (some_look c.args.plan.now c.args.held.now c.args.numbers.now c.args.history.now.events c.settle.new.later
    c.answer_settling.new.later u c.in-Ok-Some.field-0 c.in-Ok-Some.standing c.in-Ok-Some.field-0-is
    (c.in-Ok-Some.ensures.look c.args.frame u c.requires.there next c.in_ok-settling.ensures.settling)).0

pub looks-preserved : goal.looks-preserved
looks-preserved c =
    states_then c.args.plan.now c.args.held.now c.args.numbers.now c.args.history.now.events c.args.later.now
    c.settle.new.later c.answer_settling.new.later
    (settled_then c.args.plan.now c.args.held.now c.args.numbers.now c.args.history.now.events
    c.args.later.now c.looks.later c.settle.new.later c.looks.invariant
    (point_then c.args.plan.now c.args.held.now c.args.numbers.now c.args.history.now.events c.args.later.now
    c.looks.later c.requires.point c.looks.invariant) c.settle.ensures.goes) c.answer_settling.ensures.states

pub looks-smaller : goal.looks-smaller
looks-smaller c =
    fewer_looks c.args.plan.now c.args.held.now c.args.numbers.now c.args.history.now.events c.looks.later
    c.settle.new.later c.answer_settling.new.later c.in-Ok-None.field-0 c.settle.ensures.goes.states
    c.in-Ok-None.field-0-is c.in-Ok-None.ensures.more

pub returns-in-Err-clause-more : goal.returns-in-Err-clause-more
returns-in-Err-clause-more c =
    states_then c.args.plan.now c.args.held.now c.args.numbers.now c.args.history.now.events c.args.later.now
    c.settle.new.later c.answer_settling.new.later
    (settled_then c.args.plan.now c.args.held.now c.args.numbers.now c.args.history.now.events
    c.args.later.now c.looks.later c.settle.new.later c.looks.invariant
    (point_then c.args.plan.now c.args.held.now c.args.numbers.now c.args.history.now.events c.args.later.now
    c.looks.later c.requires.point c.looks.invariant) c.settle.ensures.goes) c.answer_settling.ensures.states
