use Rattle.filled_tables.proofs.SameLemmas.{value_same}
use Rattle.filled_tables.proofs.laws.values_become_the_same.Goals as goal

pub returns : goal.returns
returns c = λ a b same name v fs. value_same a b same name v fs
