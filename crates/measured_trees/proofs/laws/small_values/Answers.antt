use Rattle.measured_trees.proofs.WithinLemmas.{value_small, value_short, value_flat}
use Rattle.measured_trees.proofs.laws.small_values.Goals as goal

pub returns : goal.returns
returns c = λ v. ((λ h. (value_short v h, value_flat v h)), λ h. value_small v h.0 h.1)
