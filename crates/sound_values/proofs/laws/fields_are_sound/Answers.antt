use Rattle.sound_values.proofs.SoundLemmas.{field_sound}
use Rattle.sound_values.proofs.laws.fields_are_sound.Goals as goal

pub returns : goal.returns
returns c = λ sc e ls x b r h few. field_sound sc e ls x b r h few
