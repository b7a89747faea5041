use Rattle.agreeing_files.proofs.AgreeLemmas.{become}
use Rattle.agreeing_files.proofs.laws.agreeing_files_become_the_same.Goals as goal

pub returns : goal.returns
returns c = λ f g fs gs a same. become f g a fs gs same
