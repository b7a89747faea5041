use Rattle.sound_files.proofs.FileLemmas.{paired_file}
use Rattle.sound_files.proofs.laws.checked_files_are_paired.Goals as goal

pub returns : goal.returns
returns c = paired_file
