use Rattle.deploy_histories.specs.Events.{progress}
use Rattle.task_aims.specs.Planned.{planned_by}
use Rattle.plan_standings.specs.Waits.{table_of}
use Rattle.plan_standings.proofs.StateLemmas.{asked, taken_states, known_more}
use Rattle.plan_standings.proofs.NeedLemmas.{state_giver}
use Rattle.plan_standings.proofs.answering.need_of_state.Goals as goal

pub returns-in-Ok-Known-clause-states : goal.returns-in-Ok-Known-clause-states
returns-in-Ok-Known-clause-states c = λ g at.
    taken_states g c.args.held.now c.args.numbers.now c.args.history.now.events c.args.later.now c.take_state.new.later
    at c.args.key c.in-Ok-Known.ensures.indexed c.in-Ok-Known.field-0
    (c.in-Ok-Known.ensures.taken (planned_by g c.args.held.now) (table_of g) g.tasks.items g.keys.items
    (asked g c.args.held.now c.args.numbers.now c.args.history.now.events c.args.later.now c.take_state.new.later at))

pub returns-in-Ok-Known-clause-more : goal.returns-in-Ok-Known-clause-more
returns-in-Ok-Known-clause-more c = λ g at.
    known_more g c.args.held.now c.args.numbers.now c.args.history.now.events c.args.later.now c.take_state.new.later at
    c.args.key c.in-Ok-Known.field-0 c.in-Ok-Known.field-0-is
    (c.in-Ok-Known.ensures.taken (planned_by g c.args.held.now) (table_of g) g.tasks.items g.keys.items
    (asked g c.args.held.now c.args.numbers.now c.args.history.now.events c.args.later.now c.take_state.new.later at))

pub returns-in-Ok-Undone-clause-states : goal.returns-in-Ok-Undone-clause-states
returns-in-Ok-Undone-clause-states c = λ g at.
    taken_states g c.args.held.now c.args.numbers.now c.args.history.now.events c.args.later.now c.take_state.new.later
    at c.args.key c.in-Ok-Undone.ensures.indexed c.in-Ok-Undone.field-0
    (c.in-Ok-Undone.ensures.taken (planned_by g c.args.held.now) (table_of g) g.tasks.items g.keys.items
    (asked g c.args.held.now c.args.numbers.now c.args.history.now.events c.args.later.now c.take_state.new.later at))

pub returns-in-Ok-Undone-clause-need : goal.returns-in-Ok-Undone-clause-need
returns-in-Ok-Undone-clause-need c = λ g at.
    state_giver (planned_by g c.args.held.now) (progress c.args.history.now.events) c.args.key c.args.later.now
    c.take_state.new.later c.in-Ok-Undone.field-0 c.in-Ok-Undone.task c.in-Ok-Undone.field-0-is
    (c.in-Ok-Undone.ensures.taken (planned_by g c.args.held.now) (table_of g) g.tasks.items g.keys.items
    (asked g c.args.held.now c.args.numbers.now c.args.history.now.events c.args.later.now c.take_state.new.later at))
