use Rattle.emission_laws.proofs.FilledLemmas.{refilled_same}
use Rattle.emission_laws.proofs.laws.expressions_use_filled_holes.Goals as goal

pub returns : goal.returns
returns c = λ file files sound k e fs. refilled_same file files sound k e fs
