use Rattle.emitted_dependencies.proofs.ElementLemmas.{elements_are}
use Rattle.emitted_dependencies.proofs.laws.built_elements_are_emitted.Goals as goal

pub returns : goal.returns
returns c = λ files f z ns h. elements_are files f z ns h
