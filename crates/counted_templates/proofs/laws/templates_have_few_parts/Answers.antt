use Rattle.counted_templates.proofs.CountLemmas.{has_few_parts}
use Rattle.counted_templates.proofs.laws.templates_have_few_parts.Goals as goal

pub returns : goal.returns
returns c = λ z s rs us u made none. has_few_parts z s rs us u made none
