use Rattle.std.proofs.Common.{None, Some, subst}
use Rattle.scope_faults.specs.Circles.{IsCircleLack}
use Rattle.scope_faults.specs.Faults.{IsEntryFault}
use Rattle.plan_standings.specs.Waits.{table_of}
use Rattle.plan_standings.proofs.EnterFailLemmas.{lack_awaits, lack_result, entry_fails, never_valued}
use Rattle.plan_standings.proofs.FailStepLemmas.{same_now, point_same, told_same, filled_same, circle_same}
use Rattle.plan_standings.proofs.FailStepLemmas.{states_same, more_same}
use Rattle.plan_standings.proofs.failing.told_entry.Goals as goal

pub returns-in_err-lack-clause-states : goal.returns-in_err-lack-clause-states
returns-in_err-lack-clause-states c =
    same_now c.args.plan.now c.args.held.now c.args.numbers.now c.args.history.now.events c.args.later.now
    c.circle_lack.new.later c.requires.point c.circle_lack.ensures.entries c.circle_lack.ensures.states
    c.circle_lack.ensures.places

pub need_of-requires-clause-point : goal.need_of-requires-clause-point
need_of-requires-clause-point c =
    point_same c.args.plan.now c.args.held.now c.args.numbers.now c.args.history.now.events c.args.later.now
    c.circle_lack.new.later c.requires.point c.circle_lack.ensures.entries c.circle_lack.ensures.states
    c.circle_lack.ensures.places

pub need_of-requires-clause-awaited : goal.need_of-requires-clause-awaited
need_of-requires-clause-awaited c =
    lack_awaits c.args.plan.now c.args.held.now c.args.numbers.now c.args.history.now.events c.args.later.now
    c.requires.point c.args.frame c.requires.there c.args.task c.requires.next c.in-Some.lack
    (subst (IsCircleLack (table_of c.args.plan.now) c.args.later.now c.args.frame) c.in-Some.is
    c.in_ok-lack.ensures.lack)

pub returns-in-Some-clause-states : goal.returns-in-Some-clause-states
returns-in-Some-clause-states c =
    states_same c.args.plan.now c.args.held.now c.args.numbers.now c.args.history.now.events c.args.later.now
    c.circle_lack.new.later c.requires.point c.circle_lack.ensures.entries c.circle_lack.ensures.states
    c.circle_lack.ensures.places c.need_of.new.later c.need_of.ensures.states

pub returns-in-Some-clause-more : goal.returns-in-Some-clause-more
returns-in-Some-clause-more c =
    more_same c.args.plan.now c.args.held.now c.args.numbers.now c.args.history.now.events c.args.later.now
    c.circle_lack.new.later c.requires.point c.circle_lack.ensures.entries c.circle_lack.ensures.states
    c.circle_lack.ensures.places c.need_of.new.later c.need_of.result c.need_of.ensures.more

pub returns-in-Some-clause-failing : goal.returns-in-Some-clause-failing
returns-in-Some-clause-failing c =
    let g = c.args.plan.now in
    let held = c.args.held.now in
    let n = c.args.numbers.now in
    let h = c.args.history.now.events in
    let l = c.args.later.now in
    let m = c.circle_lack.new.later in
    lack_result g held n h m
    (point_same g held n h l m c.requires.point c.circle_lack.ensures.entries c.circle_lack.ensures.states
    c.circle_lack.ensures.places) c.args.frame c.requires.there c.args.task c.requires.next
    (filled_same g held n h l m c.requires.point c.circle_lack.ensures.entries c.circle_lack.ensures.states
    c.circle_lack.ensures.places c.args.frame c.requires.filled) c.in-Some.lack
    (circle_same g held n h l m c.requires.point c.circle_lack.ensures.entries c.circle_lack.ensures.states
    c.circle_lack.ensures.places c.args.frame (Some c.in-Some.lack)
    (subst (IsCircleLack (table_of g) l c.args.frame) c.in-Some.is c.in_ok-lack.ensures.lack)) c.need_of.result
    c.need_of.ensures.need

pub first_fault-requires-clause-told : goal.first_fault-requires-clause-told
first_fault-requires-clause-told c =
    told_same c.args.plan.now c.args.held.now c.args.numbers.now c.args.history.now.events c.args.later.now
    c.circle_lack.new.later c.requires.point c.circle_lack.ensures.entries c.circle_lack.ensures.states
    c.circle_lack.ensures.places c.requires.told

pub unreachable-requires : goal.unreachable-requires
unreachable-requires c =
    let m = c.circle_lack.new.later in
    never_valued c.args.plan.now c.args.held.now c.args.numbers.now c.args.history.now.events m
    (point_same c.args.plan.now c.args.held.now c.args.numbers.now c.args.history.now.events c.args.later.now m
    c.requires.point c.circle_lack.ensures.entries c.circle_lack.ensures.states c.circle_lack.ensures.places)
    c.args.frame c.requires.there c.args.task c.requires.next c.seen_tasks_are_ready.ensures c.requires.over
    (subst (IsEntryFault (table_of c.args.plan.now) m c.args.frame) c.in-Ok-None.field-0-is c.in-Ok-None.ensures)

pub returns-in-Ok-Some-clause-failing : goal.returns-in-Ok-Some-clause-failing
returns-in-Ok-Some-clause-failing c =
    let g = c.args.plan.now in
    let held = c.args.held.now in
    let n = c.args.numbers.now in
    let h = c.args.history.now.events in
    let l = c.args.later.now in
    let m = c.circle_lack.new.later in
    let circle = circle_same g held n h l m c.requires.point c.circle_lack.ensures.entries
    c.circle_lack.ensures.states c.circle_lack.ensures.places c.args.frame None
    (subst (IsCircleLack (table_of g) l c.args.frame) c.in-None.is c.in_ok-lack.ensures.lack) in
    entry_fails g held n h m
    (point_same g held n h l m c.requires.point c.circle_lack.ensures.entries c.circle_lack.ensures.states
    c.circle_lack.ensures.places) c.args.frame c.requires.there c.args.task c.requires.next
    (filled_same g held n h l m c.requires.point c.circle_lack.ensures.entries c.circle_lack.ensures.states
    c.circle_lack.ensures.places c.args.frame c.requires.filled) circle.0 circle.1.0 circle.1.1 c.in-Ok-Some.fault
    (subst (IsEntryFault (table_of g) m c.args.frame) c.in-Ok-Some.field-0-is c.in-Ok-Some.ensures)

pub returns-in-Ok-Some-clause-states : goal.returns-in-Ok-Some-clause-states
returns-in-Ok-Some-clause-states c =
    same_now c.args.plan.now c.args.held.now c.args.numbers.now c.args.history.now.events c.args.later.now
    c.circle_lack.new.later c.requires.point c.circle_lack.ensures.entries c.circle_lack.ensures.states
    c.circle_lack.ensures.places

pub returns-in-Err-clause-states : goal.returns-in-Err-clause-states
returns-in-Err-clause-states c =
    same_now c.args.plan.now c.args.held.now c.args.numbers.now c.args.history.now.events c.args.later.now
    c.circle_lack.new.later c.requires.point c.circle_lack.ensures.entries c.circle_lack.ensures.states
    c.circle_lack.ensures.places
