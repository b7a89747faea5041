use Rattle.file_words.proofs.FileLemmas.{words_of_values}
use Rattle.file_words.proofs.laws.names_of_values_are_words.Goals as goal

pub returns : goal.returns
returns c = words_of_values
