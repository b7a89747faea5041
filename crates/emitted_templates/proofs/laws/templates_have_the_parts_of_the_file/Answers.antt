use Rattle.emitted_templates.proofs.TemplateLemmas.{has_parts}
use Rattle.emitted_templates.proofs.laws.templates_have_the_parts_of_the_file.Goals as goal

pub returns : goal.returns
returns c = λ z s rs us u ready within t. has_parts z s rs us u ready within t
