use Rattle.std.proofs.Common.{length}
use Rattle.ordered_emissions.proofs.HoleLemmas.{known_expressions}
use Rattle.ordered_emissions.proofs.laws.known_expressions_have_holes.Goals as goal

pub returns : goal.returns
returns c = λ file files sound p e g f. known_expressions file files sound (length file.symbols) p e g f
