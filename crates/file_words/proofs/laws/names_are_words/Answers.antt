use Rattle.file_words.proofs.FileLemmas.{words_of_file}
use Rattle.file_words.proofs.laws.names_are_words.Goals as goal

pub returns : goal.returns
returns c = words_of_file
