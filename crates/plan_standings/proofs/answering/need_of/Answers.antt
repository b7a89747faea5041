use Rattle.std.proofs.Common.{subst}
use Rattle.std.specs.Prelude.{IfOk}
use Rattle.deploy_histories.specs.Events.{progress}
use Rattle.task_aims.specs.Planned.{planned_by}
use Rattle.plan_standings.specs.Waits.{table_of}
use Rattle.plan_standings.specs.Needing.{IsNeed}
use Rattle.plan_standings.proofs.NeedLemmas.{line_within, line_needs, state_is}
use Rattle.plan_standings.proofs.answering.need_of.Goals as goal

pub leaver_of_line-requires-clause-listed : goal.leaver_of_line-requires-clause-listed
leaver_of_line-requires-clause-listed c =
    line_within (table_of c.args.plan.now) c.in-Line.line c.args.lack c.in-Line.is c.requires.awaited

pub returns-in-Ok-clause-need : goal.returns-in-Ok-clause-need
returns-in-Ok-clause-need c = λ e w gone sight.
    line_needs c.args.plan.now c.args.held.now c.args.numbers.now c.args.history.now.events c.args.later.now
    c.requires.point c.in-Line.line c.in-Ok.task c.args.lack c.in-Line.is c.in-Ok.ensures e w gone sight

pub returns-in-State-clause-need : goal.returns-in-State-clause-need
returns-in-State-clause-need c = λ e w gone sight.
    subst (λ b. IfOk c.need_of_state.result (IsNeed (planned_by c.args.plan.now c.args.held.now)
    (progress c.args.history.now.events) b))
    (state_is (table_of c.args.plan.now) c.in-State.key c.args.lack e c.in-State.is w)
    (c.need_of_state.ensures.need c.args.plan.now c.requires.point)
