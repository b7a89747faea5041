use Rattle.emitted_needs.proofs.RuleLemmas.{rule_answer}
use Rattle.emitted_needs.proofs.laws.needs_have_answers.Goals as goal

pub returns : goal.returns
returns c = λ z d u bound held h symbols w s x y a b e f k l keyed.
    rule_answer z d u bound held h w s symbols x y a b e f k l keyed
