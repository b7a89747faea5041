use Rattle.program_templates.proofs.NestedLemmas.{nested_is_given}
use Rattle.program_templates.proofs.laws.nested_templates_are_given.Goals as goal

pub returns : goal.returns
returns c = nested_is_given
