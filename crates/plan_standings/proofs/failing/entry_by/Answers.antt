use Rattle.std.proofs.Common.{refl, subst, true}
use Rattle.deploy_cells.specs.Cells.{state}
use Rattle.plan_filling.specs.Rows.{row_at}
use Rattle.plan_table.specs.Whole.{rows_in}
use Rattle.scope_faults.specs.Entries.{line_cell, IsSettling}
use Rattle.plan_standings.specs.Waits.{table_of}
use Rattle.plan_standings.proofs.EnterFailLemmas.{decided_filled, circle_filled, state_result, line_result}
use Rattle.plan_standings.proofs.failing.entry_by.Goals as goal

pub told_entry-requires-clause-filled : goal.told_entry-requires-clause-filled
told_entry-requires-clause-filled c =
    decided_filled c.args.plan.now c.args.held.now c.args.history.now.events c.args.later.now c.args.frame
    (subst (IsSettling true (table_of c.args.plan.now) c.args.later.now c.args.frame) c.in-Settled.is
    c.requires.settling)

pub told_entry-requires-in-Circle-clause-filled : goal.told_entry-requires-in-Circle-clause-filled
told_entry-requires-in-Circle-clause-filled c =
    circle_filled c.args.plan.now c.args.held.now c.args.numbers.now c.args.history.now.events c.args.later.now
    c.requires.point c.args.frame c.requires.there c.args.task c.requires.next
    (line_cell (table_of c.args.plan.now) c.in-Circle.field-0)
    (subst (IsSettling true (table_of c.args.plan.now) c.args.later.now c.args.frame) c.in-Circle.is
    c.requires.settling)

pub need_of-requires-clause-awaited : goal.need_of-requires-clause-awaited
need_of-requires-clause-awaited c = (state c.in-State.key, refl)

pub returns-in-State-clause-failing : goal.returns-in-State-clause-failing
returns-in-State-clause-failing c =
    state_result c.args.plan.now c.args.held.now c.args.numbers.now c.args.history.now.events c.args.later.now
    c.requires.point c.args.frame c.requires.there c.args.task c.requires.next c.in-State.key
    (subst (IsSettling true (table_of c.args.plan.now) c.args.later.now c.args.frame) c.in-State.is
    c.requires.settling) c.need_of.result c.need_of.ensures.need

pub need_of-requires-in-Line-clause-awaited : goal.need_of-requires-in-Line-clause-awaited
need_of-requires-in-Line-clause-awaited c =
    let w = subst (IsSettling true (table_of c.args.plan.now) c.args.later.now c.args.frame) c.in-Line.is
    c.requires.settling in
    ((row_at (rows_in (table_of c.args.plan.now)) c.in-Line.line).cell, (w.listed, refl))

pub returns-in-Line-clause-failing : goal.returns-in-Line-clause-failing
returns-in-Line-clause-failing c =
    line_result c.args.plan.now c.args.held.now c.args.numbers.now c.args.history.now.events c.args.later.now
    c.requires.point c.args.frame c.requires.there c.args.task c.requires.next c.in-Line.line
    (subst (IsSettling true (table_of c.args.plan.now) c.args.later.now c.args.frame) c.in-Line.is
    c.requires.settling) c.need_of-in-Line.result c.need_of-in-Line.ensures.need
