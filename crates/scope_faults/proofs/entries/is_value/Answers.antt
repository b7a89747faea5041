use Rattle.std.proofs.Common.{subst}
use Rattle.scope_outputs.specs.Entries.{IsAnswerNow}
use Rattle.scope_faults.proofs.EntryLemmas.{answered_value, absent_none, waits_none}
use Rattle.scope_faults.proofs.entries.is_value.Goals as goal

pub returns-in-Value : goal.returns-in-Value
returns-in-Value c = λ t l e h. answered_value t l e c.in-Value.value (subst (IsAnswerNow t l e) c.in-Value.is h)

pub returns-in-Empty : goal.returns-in-Empty
returns-in-Empty c = λ t l e h. absent_none t l e (subst (IsAnswerNow t l e) c.in-Empty.is h)

pub returns-in-State : goal.returns-in-State
returns-in-State c = λ t l e h. waits_none t l e _ (subst (IsAnswerNow t l e) c.in-State.is h)

pub returns-in-Waits : goal.returns-in-Waits
returns-in-Waits c = λ t l e h. waits_none t l e _ (subst (IsAnswerNow t l e) c.in-Waits.is h).1
