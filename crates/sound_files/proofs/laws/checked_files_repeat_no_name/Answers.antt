use Rattle.sound_files.proofs.FileLemmas.{no_name_twice}
use Rattle.sound_files.proofs.laws.checked_files_repeat_no_name.Goals as goal

pub returns : goal.returns
returns c = no_name_twice
