use Rattle.sound_files.proofs.FileLemmas.{no_circle}
use Rattle.sound_files.proofs.laws.checked_files_have_no_circle.Goals as goal

pub returns : goal.returns
returns c = no_circle
