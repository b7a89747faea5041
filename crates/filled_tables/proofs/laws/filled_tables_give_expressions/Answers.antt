use Rattle.filled_tables.proofs.FilledLemmas.{expressions_given}
use Rattle.filled_tables.proofs.laws.filled_tables_give_expressions.Goals as goal

pub returns : goal.returns
returns c = λ s filled sound. expressions_given s filled sound
