use Rattle.bicep_mentions.proofs.OrderLemmas.{states_settle}
use Rattle.bicep_mentions.proofs.laws.states_are_settled.Goals as goal

pub returns : goal.returns
returns c = λ kinds ds order o n. states_settle kinds ds order o n
