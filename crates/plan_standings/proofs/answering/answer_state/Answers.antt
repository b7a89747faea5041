use Rattle.task_aims.specs.Planned.{planned_by}
use Rattle.plan_standings.specs.Waits.{table_of}
use Rattle.plan_standings.proofs.StateLemmas.{asked, taken_states, known_more, undone_stands}
use Rattle.plan_standings.proofs.answering.answer_state.Goals as goal

pub returns-in-Ok-Known-clause-states : goal.returns-in-Ok-Known-clause-states
returns-in-Ok-Known-clause-states c = λ g at.
    taken_states g c.args.held.now c.args.numbers.now c.args.history.now.events c.args.later.now c.take_state.new.later
    at c.args.key c.in-Ok-Known.ensures.indexed c.in-Ok-Known.field-0
    (c.in-Ok-Known.ensures.taken (planned_by g c.args.held.now) (table_of g) g.tasks.items g.keys.items
    (asked g c.args.held.now c.args.numbers.now c.args.history.now.events c.args.later.now c.take_state.new.later at))

pub returns-in-Ok-Known-clause-more : goal.returns-in-Ok-Known-clause-more
returns-in-Ok-Known-clause-more c = λ g at.
    known_more g c.args.held.now c.args.numbers.now c.args.history.now.events c.args.later.now c.take_state.new.later at
    c.args.key c.in-Ok-Known.field-0 c.in-Ok-Known.field-0-is
    (c.in-Ok-Known.ensures.taken (planned_by g c.args.held.now) (table_of g) g.tasks.items g.keys.items
    (asked g c.args.held.now c.args.numbers.now c.args.history.now.events c.args.later.now c.take_state.new.later at))

pub returns-in-Ok-Undone-clause-states : goal.returns-in-Ok-Undone-clause-states
returns-in-Ok-Undone-clause-states c = λ g at.
    taken_states g c.args.held.now c.args.numbers.now c.args.history.now.events c.args.later.now c.take_state.new.later
    at c.args.key c.in-Ok-Undone.ensures.indexed c.in-Ok-Undone.field-0
    (c.in-Ok-Undone.ensures.taken (planned_by g c.args.held.now) (table_of g) g.tasks.items g.keys.items
    (asked g c.args.held.now c.args.numbers.now c.args.history.now.events c.args.later.now c.take_state.new.later at))

pub returns-in-Ok-Undone-clause-answered : goal.returns-in-Ok-Undone-clause-answered
returns-in-Ok-Undone-clause-answered c = λ g at u task b. (
  tt,
  undone_stands g c.args.held.now c.args.numbers.now c.args.history.now.events c.args.later.now c.take_state.new.later
      at c.args.key c.in-Ok-Undone.field-0 c.in-Ok-Undone.task c.in-Ok-Undone.field-0-is
      (c.in-Ok-Undone.ensures.taken (planned_by g c.args.held.now) (table_of g) g.tasks.items g.keys.items
      (asked g c.args.held.now c.args.numbers.now c.args.history.now.events c.args.later.now c.take_state.new.later at))
      u task b.lacking b.is_value b.lacks,
)

pub returns-in-Ok-Known-clause-waits : goal.returns-in-Ok-Known-clause-waits
returns-in-Ok-Known-clause-waits c = λ e. cc

pub returns-in-Ok-Undone-clause-waits : goal.returns-in-Ok-Undone-clause-waits
returns-in-Ok-Undone-clause-waits c = λ e. cc
