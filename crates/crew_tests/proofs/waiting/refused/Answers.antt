use Rattle.std.proofs.Common.{◌∙◌, codes, refl, ap, Ok}
use Rattle.foundation.proofs.AsciiWords.{word}
use Rattle.provider_trait.specs.declared.answer.Answer.TheVariants.{Refused}
use Rattle.crew_tests.proofs.waiting.refused.Goals as goal

pub returns-clause-ok : goal.returns-clause-ok
returns-clause-ok c = ap Refused (c.in_ok-of.ensures ∙ word (codes "Alone") refl)

pub returns-clause-gives : goal.returns-clause-gives
returns-clause-gives c = ap (λ t. Ok (Refused t)) (c.in_ok-of.ensures ∙ word (codes "Alone") refl)
