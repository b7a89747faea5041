use Rattle.std.proofs.Common.{false, refl, subst}
use Rattle.scope_faults.specs.Entries.{line_cell, IsSettling}
use Rattle.plan_standings.specs.Waits.{table_of}
use Rattle.plan_standings.proofs.EnterLemmas.{settled_stands, scope_seen, state_lacking, line_lacking}
use Rattle.plan_standings.proofs.EnterLemmas.{nothing_stands, circle_stands, look_result}
use Rattle.plan_standings.proofs.readiness.answer_settling.Goals as goal

pub returns-in-Settled-clause-look : goal.returns-in-Settled-clause-look
returns-in-Settled-clause-look c = λ f u there next s.
    let all = subst (IsSettling false (table_of c.args.plan.now) c.args.later.now f) c.in-Settled.is s in (
      settled_stands c.args.plan.now c.args.held.now c.args.numbers.now c.args.history.now.events c.args.later.now
          c.requires.point f there u next all c.seen_tasks_are_ready.ensures _ refl,
      λ e.
          scope_seen c.args.plan.now c.args.held.now c.args.numbers.now c.args.history.now.events c.args.later.now
          c.requires.point f there u next all,
    )

pub returns-in-State-clause-look : goal.returns-in-State-clause-look
returns-in-State-clause-look c = λ f u there next s.
    look_result c.args.plan.now c.args.held.now c.args.numbers.now c.args.history.now.events c.args.later.now
    c.requires.point f there u next
    c.answer_lack.new.later c.answer_lack.result
    (c.answer_lack.ensures.answered u _
    (state_lacking c.args.plan.now c.args.held.now c.args.numbers.now c.args.history.now.events c.args.later.now
    c.requires.point f there u next c.in-State.key
    (subst (IsSettling false (table_of c.args.plan.now) c.args.later.now f) c.in-State.is s)))

pub returns-in-Line-clause-look : goal.returns-in-Line-clause-look
returns-in-Line-clause-look c = λ f u there next s.
    look_result c.args.plan.now c.args.held.now c.args.numbers.now c.args.history.now.events c.args.later.now
    c.requires.point f there u next
    c.answer_lack-in-Line.new.later c.answer_lack-in-Line.result
    (c.answer_lack-in-Line.ensures.answered u _
    (line_lacking c.args.plan.now c.args.held.now c.args.numbers.now c.args.history.now.events c.args.later.now
    c.requires.point f there u next c.in-Line.line
    (subst (IsSettling false (table_of c.args.plan.now) c.args.later.now f) c.in-Line.is s)))

pub returns-in-Nothing-clause-look : goal.returns-in-Nothing-clause-look
returns-in-Nothing-clause-look c = λ f u there next s. (
  nothing_stands c.args.plan.now c.args.held.now c.args.numbers.now c.args.history.now.events c.args.later.now
      c.requires.point f there u next c.in-Nothing.field-0
      (subst (IsSettling false (table_of c.args.plan.now) c.args.later.now f) c.in-Nothing.is s).1,
  λ e. absurd e,
)

pub returns-in-Circle-clause-look : goal.returns-in-Circle-clause-look
returns-in-Circle-clause-look c = λ f u there next s. (
  circle_stands c.args.plan.now c.args.held.now c.args.numbers.now c.args.history.now.events c.args.later.now
      c.requires.point f there u next (line_cell (table_of c.args.plan.now) c.in-Circle.field-0)
      (subst (IsSettling false (table_of c.args.plan.now) c.args.later.now f) c.in-Circle.is s),
  λ e. absurd e,
)
