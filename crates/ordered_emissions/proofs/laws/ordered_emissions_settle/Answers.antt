use Rattle.ordered_emissions.proofs.OrderLemmas.{settled}
use Rattle.ordered_emissions.proofs.laws.ordered_emissions_settle.Goals as goal

pub returns : goal.returns
returns c = λ file files order paired o n. settled file paired files order o n
