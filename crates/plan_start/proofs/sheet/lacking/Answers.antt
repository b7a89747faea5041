use Rattle.std.proofs.Common.{subst}
use Rattle.plan_sight.specs.Seen.{Lacks}
use Rattle.plan_values.specs.Values.{told_raw}
use Rattle.plan_start.proofs.AnswerLemmas.{nothing_answered, stop_answered, waits_answered}
use Rattle.plan_start.proofs.sheet.lacking.Goals as goal

pub returns-in-NotThere : goal.returns-in-NotThere
returns-in-NotThere c = λ t s h. nothing_answered t s (subst (λ e. Lacks t e (told_raw t s)) c.in-NotThere.is h)

pub returns-in-NoValue : goal.returns-in-NoValue
returns-in-NoValue c = λ t s h. stop_answered t s (subst (λ e. Lacks t e (told_raw t s)) c.in-NoValue.is h)

pub returns-in-Line : goal.returns-in-Line
returns-in-Line c =
    λ t s h. let g = subst (λ e. Lacks t e (told_raw t s)) c.in-Line.is h in (g.0, waits_answered t s _ g.1)

pub returns-in-State : goal.returns-in-State
returns-in-State c = λ t s h. waits_answered t s _ (subst (λ e. Lacks t e (told_raw t s)) c.in-State.is h)
