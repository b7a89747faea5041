use Rattle.bicep_machine.proofs.Spelling as spelling
use Rattle.bicep_machine.proofs.laws.what_is_read_is_spelled.Goals as goal

pub returns : goal.returns
returns c = spelling.read_is_spelled
