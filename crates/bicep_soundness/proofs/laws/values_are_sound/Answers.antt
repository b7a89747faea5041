use Rattle.bicep_soundness.proofs.LawLemmas.{is_value_sound}
use Rattle.bicep_soundness.proofs.laws.values_are_sound.Goals as goal

pub returns : goal.returns
returns c = is_value_sound
