use Rattle.std.proofs.Common.{subst}
use Rattle.plan_sight.specs.Seen.{Lacks}
use Rattle.scope_entries.specs.RawNow.{raw_now}
use Rattle.scope_entries.proofs.AnswerNowLemmas.{stop_told, waits_told}
use Rattle.scope_outputs.proofs.TellLemmas.{nothing_lacks}
use Rattle.scope_outputs.proofs.telling.lack_of_cell.Goals as goal

pub returns-in-NotThere : goal.returns-in-NotThere
returns-in-NotThere c =
    λ t l s r is h. absurd (nothing_lacks t l s r is (subst (λ e. Lacks t e (raw_now t l s)) c.in-NotThere.is h))

pub returns-in-NoValue : goal.returns-in-NoValue
returns-in-NoValue c =
    λ t l s r is h. stop_told t l s (subst (λ e. Lacks t e (raw_now t l s)) c.in-NoValue.is h)

pub returns-in-Line : goal.returns-in-Line
returns-in-Line c =
    λ t l s r is h. let g = subst (λ e. Lacks t e (raw_now t l s)) c.in-Line.is h in (g.0, waits_told t l s _ g.1)

pub returns-in-State : goal.returns-in-State
returns-in-State c =
    λ t l s r is h. waits_told t l s _ (subst (λ e. Lacks t e (raw_now t l s)) c.in-State.is h)
