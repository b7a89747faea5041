use Rattle.sound_programs.proofs.ProgramLemmas.{program_sound}
use Rattle.sound_programs.proofs.laws.read_and_checked_programs_are_sound.Goals as goal

pub returns : goal.returns
returns c = program_sound
