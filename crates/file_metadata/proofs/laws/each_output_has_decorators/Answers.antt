use Rattle.file_metadata.proofs.OutputLemmas.{as_many}
use Rattle.file_metadata.proofs.laws.each_output_has_decorators.Goals as goal

pub returns : goal.returns
returns c = as_many
