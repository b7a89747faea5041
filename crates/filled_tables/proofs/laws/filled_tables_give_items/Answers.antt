use Rattle.filled_tables.proofs.FilledLemmas.{items_given}
use Rattle.filled_tables.proofs.laws.filled_tables_give_items.Goals as goal

pub returns : goal.returns
returns c = λ s filled n. items_given s filled n
