use Rattle.ordered_emissions.proofs.TurnLemmas.{every_known}
use Rattle.ordered_emissions.proofs.laws.symbols_of_the_order_are_all.Goals as goal

pub returns : goal.returns
returns c = λ file files order paired o p all. every_known file files order paired o p all
