use Rattle.plan_cells.proofs.KnownLemmas.{so_in_worlds}
use Rattle.plan_cells.proofs.laws.known_is_so.Goals as goal

pub returns : goal.returns
returns c = so_in_worlds
