use Rattle.point_states.proofs.TakenLemmas.{taken_stored, taken_held}
use Rattle.point_states.proofs.taking.take_state.Goals as goal

pub returns-in-Ok-Some-clause-taken : goal.returns-in-Ok-Some-clause-taken
returns-in-Ok-Some-clause-taken c = λ x t us ks asked.
    taken_stored x c.args.history.now.events c.args.held.now t us ks c.args.numbers.now asked c.args.key
    c.args.later.now c.take_stored.new.later c.in-Ok-Some.field-0 c.in-Ok-Some.task
    (c.in-Ok-Some.ensures t us ks asked.numbers) c.in-Ok-Some.field-0-is c.take_stored.result
    c.take_stored.ensures.taken

pub returns-in_ok-take_held-in-Ok-None-clause-taken : goal.returns-in_ok-take_held-in-Ok-None-clause-taken
returns-in_ok-take_held-in-Ok-None-clause-taken c = λ x t us ks asked.
    taken_held x c.args.history.now.events c.args.held.now t us ks c.args.numbers.now asked c.args.key
    c.args.later.now c.take_held.new.later c.in-Ok-None.field-0 (c.in-Ok-None.ensures t us ks asked.numbers)
    c.in-Ok-None.field-0-is c.in_ok-take_held-in-Ok-None.ensures.kept
