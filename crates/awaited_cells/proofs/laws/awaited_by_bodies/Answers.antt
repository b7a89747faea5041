use Rattle.awaited_cells.proofs.ValueLemmas.{bodies_await}
use Rattle.awaited_cells.proofs.laws.awaited_by_bodies.Goals as goal

pub returns : goal.returns
returns c = λ d t p. bodies_await d p t
