use Rattle.template_lengths.proofs.NestedLemmas.{holds}
use Rattle.template_lengths.proofs.laws.nested_templates_are_in_the_text.Goals as goal

pub returns : goal.returns
returns c = λ t. holds t
