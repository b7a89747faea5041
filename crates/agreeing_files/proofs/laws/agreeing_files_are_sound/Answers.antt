use Rattle.agreeing_files.proofs.AgreeLemmas.{sound}
use Rattle.agreeing_files.proofs.laws.agreeing_files_are_sound.Goals as goal

pub returns : goal.returns
returns c = λ f g a s. sound f g a s
