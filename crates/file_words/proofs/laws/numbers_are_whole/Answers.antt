use Rattle.file_words.proofs.FileLemmas.{wholes_of_file}
use Rattle.file_words.proofs.laws.numbers_are_whole.Goals as goal

pub returns : goal.returns
returns c = wholes_of_file
