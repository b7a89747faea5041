use Rattle.std.proofs.Common.{refl, subst}
use Rattle.plan_standings.proofs.StateLemmas.{nothing_more, states_on, point_on, fewer_after}
use Rattle.plan_standings.specs.Leaving.{IsLeaveLook}
use Rattle.plan_standings.proofs.leaving.leave_standing.Goals as goal

pub looks-init : goal.looks-init
looks-init c =
    nothing_more c.args.plan.now c.args.held.now c.args.numbers.now c.args.history.now.events c.args.later.now
    c.args.later.now c.requires.point refl

pub answer_offering-requires-clause-point : goal.answer_offering-requires-clause-point
answer_offering-requires-clause-point c =
    point_on c.args.plan.now c.args.held.now c.args.numbers.now c.args.history.now.events c.args.later.now c.looks.later
    c.requires.point c.looks.invariant

pub returns-in-Ok-Some-clause-states : goal.returns-in-Ok-Some-clause-states
returns-in-Ok-Some-clause-states c =
    states_on c.args.plan.now c.args.held.now c.args.history.now.events c.args.later.now c.looks.later
    c.answer_offering.new.later c.looks.invariant c.answer_offering.ensures.states

pub returns-in-Ok-Some-clause-leaves : goal.returns-in-Ok-Some-clause-leaves
returns-in-Ok-Some-clause-leaves c = λ u next.
    subst (IsLeaveLook c.args.plan.now c.args.held.now c.args.history.now.events c.looks.later
    c.answer_offering.new.later c.args.frame u) c.in-Ok-Some.field-0-is
    (c.in-Ok-Some.ensures.look c.args.frame u c.requires.there next c.in_ok-offering.ensures)

pub looks-preserved : goal.looks-preserved
looks-preserved c =
    states_on c.args.plan.now c.args.held.now c.args.history.now.events c.args.later.now c.looks.later
    c.answer_offering.new.later c.looks.invariant c.answer_offering.ensures.states

pub looks-smaller : goal.looks-smaller
looks-smaller c =
    fewer_after c.looks.later c.answer_offering.new.later c.in-Ok-None.field-0 c.in-Ok-None.field-0-is
    c.in-Ok-None.ensures.more

pub returns-in-Err-clause-states : goal.returns-in-Err-clause-states
returns-in-Err-clause-states c =
    states_on c.args.plan.now c.args.held.now c.args.history.now.events c.args.later.now c.looks.later
    c.answer_offering.new.later c.looks.invariant c.answer_offering.ensures.states
