use Rattle.program_soundness.proofs.FileLemmas.{file_is_sound}
use Rattle.program_soundness.proofs.laws.checked_programs_are_sound.Goals as goal

pub returns : goal.returns
returns c = file_is_sound
