use Rattle.file_words.proofs.FileLemmas.{few_holes}
use Rattle.file_words.proofs.laws.texts_have_few_holes.Goals as goal

pub returns : goal.returns
returns c = few_holes
