use Rattle.file_words.proofs.FileLemmas.{outputs_are_names}
use Rattle.file_words.proofs.laws.outputs_are_words.Goals as goal

pub returns : goal.returns
returns c = outputs_are_names
