use Rattle.emitted_numbers.proofs.TreeLemmas.{tree_whole, members_whole, value_whole}
use Rattle.emitted_numbers.proofs.laws.numbers_of_values_are_whole.Goals as goal

pub returns-clause-trees : goal.returns-clause-trees
returns-clause-trees c = tree_whole

pub returns-clause-members : goal.returns-clause-members
returns-clause-members c = members_whole

pub returns-clause-values : goal.returns-clause-values
returns-clause-values c = value_whole
