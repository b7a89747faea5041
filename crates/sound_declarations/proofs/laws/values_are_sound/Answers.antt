use Rattle.sound_declarations.proofs.DeclaredLemmas.{file_good, values_sound}
use Rattle.sound_declarations.proofs.laws.values_are_sound.Goals as goal

pub returns : goal.returns
returns c = λ sc f x b r h few. values_sound sc x (file_good sc f x b r h few)
