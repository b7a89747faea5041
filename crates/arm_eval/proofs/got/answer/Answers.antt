use Rattle.std.proofs.Common.{ap, ◌∙◌, subst, Result, Err}
use Rattle.arm_value.specs.View.{json}
use Rattle.arm_value.specs.declared.value.Value.{Value}
use Rattle.reading.specs.Knowledge.{told}
use Rattle.arm_env.specs.Answer.{Gives}
use Rattle.arm_env.specs.declared.stop.Stop.{Stop}
use Rattle.arm_eval.proofs.GotLemmas.{says_none}
use Rattle.arm_eval.proofs.got.answer.Goals as goal

pub returns-in-Err-NoValue : goal.returns-in-Err-NoValue
returns-in-Err-NoValue c =
    λ p r h. says_none p r
    (subst (λ (f : Result Value Stop). Gives json f (told p r))
    (c.in-Err-NoValue.is ∙ ap Err c.in-Err-NoValue.field-0-is) h)

pub returns-in-Err-Waits : goal.returns-in-Err-Waits
returns-in-Err-Waits c =
    λ p r h. c.awaited.ensures p r
    (subst (λ (f : Result Value Stop). Gives json f (told p r))
    (c.in-Err-Waits.is ∙ ap Err c.in-Err-Waits.field-0-is) h)
