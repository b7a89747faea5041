use Rattle.sound_files.proofs.FileLemmas.{sound_file}
use Rattle.sound_files.proofs.laws.checked_files_are_sound.Goals as goal

pub returns : goal.returns
returns c = sound_file
