use Rattle.bicep_soundness.proofs.LawLemmas.{is_sound}
use Rattle.bicep_soundness.proofs.laws.expressions_are_sound.Goals as goal

pub returns : goal.returns
returns c = is_sound
