use Rattle.std.proofs.Common.{subst}
use Rattle.scope_faults.specs.Outputs.{IsOffering}
use Rattle.plan_standings.specs.Waits.{table_of}
use Rattle.plan_standings.proofs.LeaveLemmas.{told_stands, nothing_stands, state_lacking, line_lacking}
use Rattle.plan_standings.proofs.leaving.answer_offering.Goals as goal

pub returns-in-Told-clause-look : goal.returns-in-Told-clause-look
returns-in-Told-clause-look c = λ f u there next s.
    let all = subst (IsOffering (table_of c.args.plan.now) c.args.later.now f) c.in-Told.is s in (
      all,
      told_stands c.args.plan.now c.args.held.now c.args.numbers.now c.args.history.now.events c.args.later.now
          c.requires.point f there u next c.seen_tasks_are_ready.ensures c.in-Told.noted.items all,
    )

pub returns-in-State-clause-look : goal.returns-in-State-clause-look
returns-in-State-clause-look c = λ f u there next s.
    c.by_lack.ensures.look f u there next
    (state_lacking c.args.plan.now c.args.held.now c.args.numbers.now c.args.history.now.events c.args.later.now
    c.requires.point f there u next c.in-State.key
    (subst (IsOffering (table_of c.args.plan.now) c.args.later.now f) c.in-State.is s))

pub returns-in-Line-clause-look : goal.returns-in-Line-clause-look
returns-in-Line-clause-look c = λ f u there next s.
    c.by_lack-in-Line.ensures.look f u there next
    (line_lacking c.args.plan.now c.args.held.now c.args.numbers.now c.args.history.now.events c.args.later.now
    c.requires.point f there u next c.in-Line.line
    (subst (IsOffering (table_of c.args.plan.now) c.args.later.now f) c.in-Line.is s))

pub returns-in-Nothing-clause-look : goal.returns-in-Nothing-clause-look
returns-in-Nothing-clause-look c = λ f u there next s. (
  tt,
  nothing_stands c.args.plan.now c.args.held.now c.args.numbers.now c.args.history.now.events c.args.later.now
      c.requires.point f there u next c.in-Nothing.field-0
      (subst (IsOffering (table_of c.args.plan.now) c.args.later.now f) c.in-Nothing.is s),
)
