use Rattle.task_aims.specs.Task.TheVariants.{Enter, Put, Leave, Delete}
use Rattle.plan_standings.proofs.StandLemmas.{with_states, is_next, of_table}
use Rattle.plan_standings.proofs.FailStepLemmas.{never_deletes}
use Rattle.plan_standings.proofs.failing.task_failing.Goals as goal

pub enter_failing-requires-clause-there : goal.enter_failing-requires-clause-there
enter_failing-requires-clause-there c =
    of_table c.args.plan.now c.args.held.now c.args.history.now.events c.args.number (Enter c.in-Enter.frame)
    c.index.result.now c.requires.within c.index.ensures c.in-Enter.is c.args.numbers.now c.args.later.now
    c.requires.point

pub enter_failing-requires-clause-next : goal.enter_failing-requires-clause-next
enter_failing-requires-clause-next c =
    is_next c.args.plan.now c.args.held.now c.args.history.now.events c.args.number (Enter c.in-Enter.frame)
    c.index.result.now c.requires.within c.index.ensures c.in-Enter.is c.requires.waits c.requires.needs

pub put_failing-requires-clause-put : goal.put_failing-requires-clause-put
put_failing-requires-clause-put c =
    of_table c.args.plan.now c.args.held.now c.args.history.now.events c.args.number (Put c.in-Put.frame
    c.in-Put.resource c.in-Put.copy) c.index.result.now c.requires.within c.index.ensures c.in-Put.is
    c.args.numbers.now c.args.later.now c.requires.point

pub put_failing-requires-clause-next : goal.put_failing-requires-clause-next
put_failing-requires-clause-next c =
    is_next c.args.plan.now c.args.held.now c.args.history.now.events c.args.number (Put c.in-Put.frame
    c.in-Put.resource c.in-Put.copy) c.index.result.now c.requires.within c.index.ensures c.in-Put.is c.requires.waits
    c.requires.needs

pub leave_failing-requires-clause-there : goal.leave_failing-requires-clause-there
leave_failing-requires-clause-there c =
    of_table c.args.plan.now c.args.held.now c.args.history.now.events c.args.number (Leave c.in-Leave.frame)
    c.index.result.now c.requires.within c.index.ensures c.in-Leave.is c.args.numbers.now c.args.later.now
    c.requires.point

pub leave_failing-requires-clause-next : goal.leave_failing-requires-clause-next
leave_failing-requires-clause-next c =
    is_next c.args.plan.now c.args.held.now c.args.history.now.events c.args.number (Leave c.in-Leave.frame)
    c.index.result.now c.requires.within c.index.ensures c.in-Leave.is c.requires.waits c.requires.needs

pub returns-in-Put-clause-more : goal.returns-in-Put-clause-more
returns-in-Put-clause-more c =
    with_states c.args.plan.now c.args.held.now c.args.history.now.events c.args.later.now c.put_failing.new.later
    c.requires.told c.put_failing.ensures.states

pub returns-in-Leave-clause-more : goal.returns-in-Leave-clause-more
returns-in-Leave-clause-more c =
    with_states c.args.plan.now c.args.held.now c.args.history.now.events c.args.later.now c.leave_failing.new.later
    c.requires.told c.leave_failing.ensures.states

pub unreachable-requires : goal.unreachable-requires
unreachable-requires c =
    never_deletes c.seen_tasks_are_ready.ensures c.args.plan.now c.args.held.now c.args.numbers.now
    c.args.history.now.events c.args.later.now c.requires.point c.args.number c.in-Delete.field-0 (is_next
    c.args.plan.now c.args.held.now c.args.history.now.events c.args.number (Delete c.in-Delete.field-0)
    c.index.result.now c.requires.within c.index.ensures c.in-Delete.is c.requires.waits c.requires.needs)
    c.requires.over
