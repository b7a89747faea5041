use Rattle.std.proofs.Common.{refl}
use Rattle.arm_value.specs.declared.value.Value.TheVariants.{Null}
use Rattle.task_standings.specs.declared.standing.Standing.TheVariants.{Ready}
use Rattle.task_aims.specs.Task.TheVariants.{Enter, Put, Leave, Delete}
use Rattle.point_rows.specs.Rows.{known_now}
use Rattle.plan_standings.specs.Waits.{table_of}
use Rattle.plan_standings.proofs.EnterLemmas.{nothing_yet}
use Rattle.plan_standings.proofs.StandLemmas.{with_states, is_next, of_table, never_enters, never_leaves}
use Rattle.plan_standings.proofs.StandLemmas.{none_entered, none_left, deletion_stands}
use Rattle.plan_standings.proofs.readiness.task_standing.Goals as goal

pub enter_standing-requires-clause-there : goal.enter_standing-requires-clause-there
enter_standing-requires-clause-there c =
    of_table c.args.plan.now c.args.held.now c.args.history.now.events c.args.number (Enter c.in-Enter.frame)
    c.index.result.now c.requires.within c.index.ensures c.in-Enter.is c.args.numbers.now c.args.later.now
    c.requires.point

pub put_standing-requires-clause-put : goal.put_standing-requires-clause-put
put_standing-requires-clause-put c =
    of_table c.args.plan.now c.args.held.now c.args.history.now.events c.args.number (Put c.in-Put.frame
    c.in-Put.resource c.in-Put.copy) c.index.result.now c.requires.within c.index.ensures c.in-Put.is
    c.args.numbers.now c.args.later.now c.requires.point

pub leave_task-requires-clause-there : goal.leave_task-requires-clause-there
leave_task-requires-clause-there c =
    of_table c.args.plan.now c.args.held.now c.args.history.now.events c.args.number (Leave c.in-Leave.frame)
    c.index.result.now c.requires.within c.index.ensures c.in-Leave.is c.args.numbers.now c.args.later.now
    c.requires.point

pub returns-in-Enter-clause-stands : goal.returns-in-Enter-clause-stands
returns-in-Enter-clause-stands c =
    c.enter_standing.ensures.stands c.args.number (is_next c.args.plan.now c.args.held.now c.args.history.now.events
    c.args.number (Enter c.in-Enter.frame) c.index.result.now c.requires.within c.index.ensures c.in-Enter.is
    c.requires.waits c.requires.needs)

pub returns-in-Enter-clause-entered : goal.returns-in-Enter-clause-entered
returns-in-Enter-clause-entered c =
    c.enter_standing.ensures.entered c.args.number (is_next c.args.plan.now c.args.held.now c.args.history.now.events
    c.args.number (Enter c.in-Enter.frame) c.index.result.now c.requires.within c.index.ensures c.in-Enter.is
    c.requires.waits c.requires.needs)

pub returns-in-Enter-clause-noted : goal.returns-in-Enter-clause-noted
returns-in-Enter-clause-noted c =
    none_left c.args.plan.now c.args.held.now c.args.history.now.events c.args.number (Enter c.in-Enter.frame)
    c.index.result.now c.requires.within c.index.ensures c.in-Enter.is (λ q e. cc) c.enter_standing.new.later
    c.args.noted.now c.enter_standing.result

pub returns-in-Put-clause-more : goal.returns-in-Put-clause-more
returns-in-Put-clause-more c =
    with_states c.args.plan.now c.args.held.now c.args.history.now.events c.args.later.now c.put_standing.new.later
    c.requires.told c.put_standing.ensures.states

pub returns-in-Put-clause-stands : goal.returns-in-Put-clause-stands
returns-in-Put-clause-stands c =
    c.put_standing.ensures.stands c.args.number (is_next c.args.plan.now c.args.held.now c.args.history.now.events
    c.args.number (Put c.in-Put.frame c.in-Put.resource c.in-Put.copy) c.index.result.now
    c.requires.within c.index.ensures c.in-Put.is c.requires.waits c.requires.needs)

pub returns-in-Put-clause-entered : goal.returns-in-Put-clause-entered
returns-in-Put-clause-entered c =
    none_entered c.args.plan.now c.args.held.now c.args.history.now.events c.args.number (Put c.in-Put.frame
    c.in-Put.resource c.in-Put.copy) c.index.result.now c.requires.within c.index.ensures c.in-Put.is (λ q e.
    cc) (known_now (table_of c.args.plan.now) c.put_standing.new.later) c.put_standing.result

pub returns-in-Leave-clause-more : goal.returns-in-Leave-clause-more
returns-in-Leave-clause-more c =
    with_states c.args.plan.now c.args.held.now c.args.history.now.events c.args.later.now c.leave_task.new.later
    c.requires.told c.leave_task.ensures.states

pub returns-in-Leave-clause-stands : goal.returns-in-Leave-clause-stands
returns-in-Leave-clause-stands c =
    c.leave_task.ensures.stands c.args.number (is_next c.args.plan.now c.args.held.now c.args.history.now.events
    c.args.number (Leave c.in-Leave.frame) c.index.result.now c.requires.within c.index.ensures c.in-Leave.is
    c.requires.waits c.requires.needs)

pub returns-in-Leave-clause-entered : goal.returns-in-Leave-clause-entered
returns-in-Leave-clause-entered c =
    none_entered c.args.plan.now c.args.held.now c.args.history.now.events c.args.number (Leave c.in-Leave.frame)
    c.index.result.now c.requires.within c.index.ensures c.in-Leave.is (λ q e. cc) (known_now (table_of
    c.args.plan.now) c.leave_task.new.later) c.leave_task.result

pub returns-in-Put-clause-noted : goal.returns-in-Put-clause-noted
returns-in-Put-clause-noted c =
    none_left c.args.plan.now c.args.held.now c.args.history.now.events c.args.number (Put c.in-Put.frame
    c.in-Put.resource c.in-Put.copy) c.index.result.now c.requires.within c.index.ensures c.in-Put.is (λ q e.
    cc) c.put_standing.new.later c.args.noted.now c.put_standing.result

pub returns-in-Leave-clause-noted : goal.returns-in-Leave-clause-noted
returns-in-Leave-clause-noted c =
    c.leave_task.ensures.noted c.args.number (is_next c.args.plan.now c.args.held.now c.args.history.now.events
    c.args.number (Leave c.in-Leave.frame) c.index.result.now c.requires.within c.index.ensures c.in-Leave.is
    c.requires.waits c.requires.needs)

pub returns-in-Delete-clause-more : goal.returns-in-Delete-clause-more
returns-in-Delete-clause-more c =
    nothing_yet c.args.plan.now c.args.held.now c.args.numbers.now c.args.history.now.events c.args.later.now
    c.requires.point c.requires.told

pub returns-in-Delete-clause-stands : goal.returns-in-Delete-clause-stands
returns-in-Delete-clause-stands c =
    deletion_stands c.seen_tasks_are_ready.ensures c.args.plan.now c.args.held.now c.args.numbers.now
    c.args.history.now.events c.args.later.now c.requires.point c.args.number c.in-Delete.field-0 (is_next
    c.args.plan.now c.args.held.now c.args.history.now.events c.args.number (Delete c.in-Delete.field-0)
    c.index.result.now c.requires.within c.index.ensures c.in-Delete.is c.requires.waits c.requires.needs) Null refl

pub returns-in-Delete-clause-entered : goal.returns-in-Delete-clause-entered
returns-in-Delete-clause-entered c =
    λ e. absurd (never_enters c.args.plan.now c.args.held.now c.args.history.now.events c.args.number (Delete
    c.in-Delete.field-0) c.index.result.now c.requires.within c.index.ensures c.in-Delete.is (λ q f. cc) (Ready Null) e)

pub returns-in-Delete-clause-noted : goal.returns-in-Delete-clause-noted
returns-in-Delete-clause-noted c =
    λ e. absurd (never_leaves c.args.plan.now c.args.held.now c.args.history.now.events c.args.number (Delete
    c.in-Delete.field-0) c.index.result.now c.requires.within c.index.ensures c.in-Delete.is (λ q f. cc) (Ready Null) e)
