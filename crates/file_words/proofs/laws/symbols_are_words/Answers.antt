use Rattle.file_words.proofs.FileLemmas.{symbols_are_names}
use Rattle.file_words.proofs.laws.symbols_are_words.Goals as goal

pub returns : goal.returns
returns c = symbols_are_names
