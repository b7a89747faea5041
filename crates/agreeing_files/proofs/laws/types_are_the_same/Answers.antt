use Rattle.agreeing_files.proofs.AgreeLemmas.{types}
use Rattle.agreeing_files.proofs.laws.types_are_the_same.Goals as goal

pub returns : goal.returns
returns c = λ f g a n. types f g a n
