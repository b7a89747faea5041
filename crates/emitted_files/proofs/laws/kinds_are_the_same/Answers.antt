use Rattle.emitted_files.proofs.KindLemmas.{kinds_same}
use Rattle.emitted_files.proofs.laws.kinds_are_the_same.Goals as goal

pub returns : goal.returns
returns c = λ z d t h p q n m e k. kinds_same z d t h p q n m e k
