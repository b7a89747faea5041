use Rattle.awaited_cells.proofs.ValueLemmas.{outputs_await}
use Rattle.awaited_cells.proofs.laws.awaited_by_outputs.Goals as goal

pub returns : goal.returns
returns c = λ d t p. outputs_await d p t
