use Rattle.std.proofs.Common.{length}
use Rattle.ordered_emissions.proofs.HoleLemmas.{known_values}
use Rattle.ordered_emissions.proofs.laws.known_values_have_holes.Goals as goal

pub returns : goal.returns
returns c = λ file files sound p v g f. known_values file files sound (length file.symbols) p v g f
