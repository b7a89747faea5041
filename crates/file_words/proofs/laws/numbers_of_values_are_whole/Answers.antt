use Rattle.file_words.proofs.FileLemmas.{wholes_of_values}
use Rattle.file_words.proofs.laws.numbers_of_values_are_whole.Goals as goal

pub returns : goal.returns
returns c = wholes_of_values
