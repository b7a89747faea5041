use Rattle.scope_entries.proofs.AnswerNowLemmas.{rule_met, rule_broken}
use Rattle.scope_entries.proofs.answer.answer_by.Goals as goal

pub returns-then-met : goal.returns-then-met
returns-then-met c = λ t l s e h. rule_met t l s c.args.raw c.args.met e c.if-met.true h

pub returns-else-met : goal.returns-else-met
returns-else-met c = λ t l s e h. rule_broken t l s c.args.raw c.args.met e c.if-met.false h
