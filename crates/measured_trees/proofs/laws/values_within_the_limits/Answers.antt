use Rattle.measured_trees.proofs.WithinLemmas.{value_printed, value_printable, value_is_small}
use Rattle.measured_trees.proofs.laws.values_within_the_limits.Goals as goal

pub returns : goal.returns
returns c = λ v. ((λ h. (value_printable v h, value_is_small v h)), λ h. value_printed v h.0 h.1)
