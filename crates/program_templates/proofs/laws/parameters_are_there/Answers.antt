use Rattle.program_templates.proofs.ParameterLemmas.{all_there}
use Rattle.program_templates.proofs.laws.parameters_are_there.Goals as goal

pub returns : goal.returns
returns c = all_there
