use Rattle.std.proofs.Common.{subst}
use Rattle.scope_outputs.specs.Entries.{IsAnswerNow}
use Rattle.scope_faults.proofs.CircleLemmas.{value_lacks, empty_lacks}
use Rattle.scope_faults.proofs.circles.line_lack.Goals as goal

pub returns-in-Value : goal.returns-in-Value
returns-in-Value c =
    λ t l e h. value_lacks t l e c.in-Value.value (subst (IsAnswerNow t l e) c.in-Value.is h)

pub returns-in-Empty : goal.returns-in-Empty
returns-in-Empty c = λ t l e h. empty_lacks t l e (subst (IsAnswerNow t l e) c.in-Empty.is h)

pub returns-in-State : goal.returns-in-State
returns-in-State c = λ t l e h. subst (IsAnswerNow t l e) c.in-State.is h

pub returns-in-Waits : goal.returns-in-Waits
returns-in-Waits c = λ t l e h. subst (IsAnswerNow t l e) c.in-Waits.is h
