use Rattle.agreeing_files.proofs.AgreeLemmas.{expressions}
use Rattle.agreeing_files.proofs.laws.expressions_become_the_same.Goals as goal

pub returns : goal.returns
returns c = λ f g fs gs a same sc e ts. expressions f g a fs gs same sc e ts
