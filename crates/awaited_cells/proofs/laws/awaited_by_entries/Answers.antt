use Rattle.awaited_cells.proofs.ValueLemmas.{entries_await}
use Rattle.awaited_cells.proofs.laws.awaited_by_entries.Goals as goal

pub returns : goal.returns
returns c = λ d t p. entries_await d t p
