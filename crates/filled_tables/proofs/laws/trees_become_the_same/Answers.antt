use Rattle.filled_tables.proofs.SameLemmas.{tree_same}
use Rattle.filled_tables.proofs.laws.trees_become_the_same.Goals as goal

pub returns : goal.returns
returns c = λ a b same e fs. tree_same a b same e fs
