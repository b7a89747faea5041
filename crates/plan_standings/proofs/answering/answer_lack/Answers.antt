use Rattle.std.proofs.Common.{◌≡◌, subst}
use Rattle.plan_sight.specs.declared.lack.Lack.TheVariants as lack
use Rattle.plan_standings.specs.Answers.{IsLacking}
use Rattle.plan_standings.proofs.AnswerLemmas.{leave_stands, never_stuck}
use Rattle.plan_standings.proofs.answering.answer_lack.Goals as goal

pub returns-in-Ok-clause-answered : goal.returns-in-Ok-clause-answered
returns-in-Ok-clause-answered c = λ u task b. (
  tt,
  leave_stands c.args.plan.now c.args.held.now c.args.numbers.now c.args.history.now.events c.args.later.now
      c.requires.point u task c.in-Line.line c.in-Ok.task (c.requires.listed c.in-Line.line c.in-Line.is)
      c.in-Ok.ensures
      (subst (IsLacking c.args.plan.now c.args.held.now c.args.history.now.events c.args.later.now task) c.in-Line.is
      b),
)

pub returns-in-State-clause-answered : goal.returns-in-State-clause-answered
returns-in-State-clause-answered c = λ u task b.
    c.answer_state.ensures.answered c.args.plan.now c.requires.point u task
    (subst (IsLacking c.args.plan.now c.args.held.now c.args.history.now.events c.args.later.now task) c.in-State.is b)

pub returns-in-NoValue-clause-stuck : goal.returns-in-NoValue-clause-stuck
returns-in-NoValue-clause-stuck c = λ e. c.in-NoValue.is

pub returns-in-Ok-clause-stuck : goal.returns-in-Ok-clause-stuck
returns-in-Ok-clause-stuck c = λ e. absurd (cc)

pub returns-in-State-clause-stuck : goal.returns-in-State-clause-stuck
returns-in-State-clause-stuck c =
    never_stuck (c.args.lack ≡ lack.NoValue) c.answer_state.result c.answer_state.ensures.waits
