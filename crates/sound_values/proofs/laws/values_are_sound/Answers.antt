use Rattle.sound_values.proofs.SoundLemmas.{whole_sound}
use Rattle.sound_values.proofs.laws.values_are_sound.Goals as goal

pub returns : goal.returns
returns c = λ sc v ls x b r h few. whole_sound sc v ls x b r h few
