use Rattle.std.proofs.Common.{subst}
use Rattle.scope_faults.specs.Faults.{AreOutputLacks, IsLeaveFault}
use Rattle.plan_standings.specs.Waits.{table_of}
use Rattle.plan_standings.proofs.LeaveFailLemmas.{lack_awaits, lack_result, leave_fails, never_told_all}
use Rattle.plan_standings.proofs.failing.leave_by.Goals as goal

pub need_of-requires-clause-awaited : goal.need_of-requires-clause-awaited
need_of-requires-clause-awaited c =
    lack_awaits c.args.plan.now c.args.held.now c.args.numbers.now c.args.history.now.events c.args.later.now
    c.requires.point c.args.frame c.requires.there c.args.task c.requires.next c.in-Some.lack
    (subst (AreOutputLacks (table_of c.args.plan.now) c.args.later.now c.args.frame) c.in-Some.is
    c.in_ok-lack.ensures)

pub returns-in-Some-clause-failing : goal.returns-in-Some-clause-failing
returns-in-Some-clause-failing c =
    lack_result c.args.plan.now c.args.held.now c.args.numbers.now c.args.history.now.events c.args.later.now
    c.requires.point c.args.frame c.requires.there c.args.task c.requires.next c.in-Some.lack
    (subst (AreOutputLacks (table_of c.args.plan.now) c.args.later.now c.args.frame) c.in-Some.is
    c.in_ok-lack.ensures) c.need_of.result c.need_of.ensures.need

pub unreachable-requires : goal.unreachable-requires
unreachable-requires c =
    never_told_all c.args.plan.now c.args.held.now c.args.numbers.now c.args.history.now.events c.args.later.now
    c.requires.point c.args.frame c.requires.there c.args.task c.requires.next
    (subst (AreOutputLacks (table_of c.args.plan.now) c.args.later.now c.args.frame) c.in-None.is
    c.in_ok-lack.ensures) c.seen_tasks_are_ready.ensures c.requires.over
    (subst (IsLeaveFault (table_of c.args.plan.now) c.args.later.now c.args.frame) c.in-Ok-None.field-0-is
    c.in-Ok-None.ensures)

pub returns-in-Ok-Some-clause-failing : goal.returns-in-Ok-Some-clause-failing
returns-in-Ok-Some-clause-failing c =
    leave_fails c.args.plan.now c.args.held.now c.args.numbers.now c.args.history.now.events c.args.later.now
    c.requires.point c.args.frame c.requires.there c.args.task c.requires.next
    (subst (AreOutputLacks (table_of c.args.plan.now) c.args.later.now c.args.frame) c.in-None.is
    c.in_ok-lack.ensures) c.in-Ok-Some.fault
    (subst (IsLeaveFault (table_of c.args.plan.now) c.args.later.now c.args.frame) c.in-Ok-Some.field-0-is
    c.in-Ok-Some.ensures)
