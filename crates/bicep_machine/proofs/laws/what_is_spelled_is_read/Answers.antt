use Rattle.bicep_machine.proofs.Spelling as spelling
use Rattle.bicep_machine.proofs.laws.what_is_spelled_is_read.Goals as goal

pub returns : goal.returns
returns c = spelling.spelled_is_read
