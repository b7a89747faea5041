use Rattle.plan_start.proofs.AnswerLemmas.{rule_met, rule_broken}
use Rattle.plan_start.proofs.sheet.answer_by.Goals as goal

pub returns-then-met : goal.returns-then-met
returns-then-met c = λ t s e h. rule_met t s c.args.raw c.args.met e c.if-met.true h

pub returns-else-met : goal.returns-else-met
returns-else-met c = λ t s e h. rule_broken t s c.args.raw c.args.met e c.if-met.false h
