use Rattle.source_files.proofs.SourceLemmas.{outputs_same}
use Rattle.source_files.proofs.laws.outputs_are_of_the_program.Goals as goal

pub returns : goal.returns
returns c = outputs_same
