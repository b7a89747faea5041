use Rattle.std.proofs.Common.{Some, refl, ap, ◌∙◌}
use Rattle.plan_standings.proofs.StateLemmas.{nothing_more, states_on, point_on, fewer_after}
use Rattle.plan_standings.proofs.PutLemmas.{some_look}
use Rattle.plan_standings.proofs.readiness.put_standing.Goals as goal

pub looks-init : goal.looks-init
looks-init c =
    nothing_more c.args.plan.now c.args.held.now c.args.numbers.now c.args.history.now.events c.args.later.now
    c.args.later.now c.requires.point refl

pub look_at-requires-clause-point : goal.look_at-requires-clause-point
look_at-requires-clause-point c =
    point_on c.args.plan.now c.args.held.now c.args.numbers.now c.args.history.now.events c.args.later.now c.looks.later
    c.requires.point c.looks.invariant

pub returns-in-Ok-Some-clause-states : goal.returns-in-Ok-Some-clause-states
returns-in-Ok-Some-clause-states c =
    states_on c.args.plan.now c.args.held.now c.args.history.now.events c.args.later.now c.looks.later
    c.look_at.new.later c.looks.invariant c.look_at.ensures.states

pub returns-in-Ok-Some-clause-stands : goal.returns-in-Ok-Some-clause-stands
returns-in-Ok-Some-clause-stands c = λ u next.
    some_look c.args.plan.now c.args.held.now c.args.history.now.events c.looks.later c.look_at.new.later u
    c.in-Ok-Some.field-0 c.in-Ok-Some.standing c.in-Ok-Some.field-0-is (c.in-Ok-Some.ensures.look u next)

pub returns-in-Err-clause-states : goal.returns-in-Err-clause-states
returns-in-Err-clause-states c =
    states_on c.args.plan.now c.args.held.now c.args.history.now.events c.args.later.now c.looks.later
    c.look_at.new.later c.looks.invariant c.look_at.ensures.states

pub looks-preserved : goal.looks-preserved
looks-preserved c =
    states_on c.args.plan.now c.args.held.now c.args.history.now.events c.args.later.now c.looks.later
    c.look_at.new.later c.looks.invariant c.look_at.ensures.states

pub looks-smaller : goal.looks-smaller
looks-smaller c =
    fewer_after c.looks.later c.look_at.new.later c.in-Ok-None.field-0 c.in-Ok-None.field-0-is
    c.in-Ok-None.ensures.more

pub returns-in-Ok-Some-clause-stuck : goal.returns-in-Ok-Some-clause-stuck
returns-in-Ok-Some-clause-stuck c = λ e. c.in-Ok-Some.ensures.stuck (c.in-Ok-Some.field-0-is ∙ ap (λ s. Some s) e)
