use Rattle.ordered_emissions.proofs.KnownLemmas.{suffices}
use Rattle.ordered_emissions.proofs.laws.known_symbols_suffice.Goals as goal

pub returns : goal.returns
returns c = λ file files order paired o sound p n h. suffices file files order paired o sound p n h
