use Rattle.plan_standings.proofs.StandLemmas.{left_stands, left_noted}
use Rattle.plan_standings.proofs.leaving.leave_task.Goals as goal

pub returns-in-Ok-clause-stands : goal.returns-in-Ok-clause-stands
returns-in-Ok-clause-stands c = λ u next.
    left_stands c.args.plan.now c.args.held.now c.args.history.now.events c.leave_standing.new.later c.args.frame u
    c.in-Ok.leaving (c.in-Ok.ensures.leaves u next) c.note.new.noted c.note.result c.note.ensures

pub returns-in-Ok-clause-noted : goal.returns-in-Ok-clause-noted
returns-in-Ok-clause-noted c = λ u next.
    left_noted c.args.plan.now c.args.held.now c.args.history.now.events c.leave_standing.new.later c.args.frame u
    c.in-Ok.leaving (c.in-Ok.ensures.leaves u next) next c.note.new.noted c.note.result
    c.note.ensures
