use Rattle.ordered_emissions.proofs.KnownLemmas.{all_known}
use Rattle.ordered_emissions.proofs.laws.known_symbols_are_all.Goals as goal

pub returns : goal.returns
returns c = λ file files p h. all_known file files p h
