use Rattle.sound_files.proofs.FileLemmas.{sound_values}
use Rattle.sound_files.proofs.laws.checked_values_are_sound.Goals as goal

pub returns : goal.returns
returns c = sound_values
