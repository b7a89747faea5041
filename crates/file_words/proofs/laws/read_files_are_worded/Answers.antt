use Rattle.file_words.proofs.FileLemmas.{file_worded}
use Rattle.file_words.proofs.laws.read_files_are_worded.Goals as goal

pub returns : goal.returns
returns c = file_worded
