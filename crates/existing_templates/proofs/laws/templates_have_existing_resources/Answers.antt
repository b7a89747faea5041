use Rattle.existing_templates.proofs.ExistingLemmas.{has_existing}
use Rattle.existing_templates.proofs.laws.templates_have_existing_resources.Goals as goal

pub returns : goal.returns
returns c = λ z s rs us u ready within made. has_existing z s rs us u ready within made
