use Rattle.ordered_emissions.proofs.TurnLemmas.{heads_known}
use Rattle.ordered_emissions.proofs.laws.heads_of_the_order_are_known.Goals as goal

pub returns : goal.returns
returns c = λ file files order paired o sound p all n fs r. heads_known file files order paired o p sound all n fs r
