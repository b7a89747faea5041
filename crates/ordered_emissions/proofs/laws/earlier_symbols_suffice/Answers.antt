use Rattle.ordered_emissions.proofs.TurnLemmas.{earlier_suffice}
use Rattle.ordered_emissions.proofs.laws.earlier_symbols_suffice.Goals as goal

pub returns : goal.returns
returns c = λ file files order paired o sound p i h before. earlier_suffice file files order paired o p sound i h before
